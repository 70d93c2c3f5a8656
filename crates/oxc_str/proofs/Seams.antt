-- Bytes of WTF-8 after one another: as they are, or with a lead and a trail joined where they meet.
use Rattle.std.proofs.Common.{◌≡◌, ℕ, ◌<◌, ◌≤◌, ◌+◌, ◌-◌, ◌/◌, ◌%◌, inr, List, [], ◌∷◌, ◌++◌, append_assoc, append-nil, length, length-append, get_or, take, drop, flat_map, Bool, true, false, cond, arith, sym, ap, ap₂, ◌∙◌, refl, subst}
use Rattle.std.specs.Char.Escape.{encode_utf16}
use Rattle.std.specs.Str.{chars}
use Rattle.std.proofs.Math.Seq.{take-append_seam, drop-append_seam}
use Rattle.std.proofs.lemmas.Bool.{and_parts}
use Rattle.std.proofs.lemmas.Bool.Decides.{nat_tests}
use Rattle.std.proofs.lemmas.Grind.{flat_map-append}
use Rattle.std.proofs.lemmas.Str.{encodes-append, length-le-encodes}
use lib.Utf8.{encode, encodes}
use Rattle.json_text.specs.Strings.{is_lead, is_trail}
use Rattle.json_text.specs.Units.{units_of}
use Rattle.json_text.proofs.Units.{encode_utf16-long, encode_utf16-short}
use Rattle.oxc_estree.proofs.Units.{no_lead, no_trail}
use Rattle.oxc_str.specs.Wtf8.{is_surrogate, IsWtf8}
use Rattle.oxc_str.specs.Wtf8Buffer.{surrogate_count, last_or_0, IsCounted, StandApart, JoinTo}
use Rattle.oxc_str.proofs.CodePoints.{AreCodePoints, AreCodePoints-append, three, chars-of_encodes}
use Rattle.oxc_str.proofs.CodeUnits.{Unsplit, is_pair, lead_range, trail_range, no_pair_by_lead, no_pair_by_trail}
use Rattle.oxc_str.proofs.Canonical.{Points, points, IsWtf8-points}

-- ---- lists of code points

Unsplit-append : (cs ds : List ℕ) → Unsplit cs → Unsplit ds → is_pair (last_or_0 cs) (get_or ds 0 0) ≡ false → Unsplit (cs ++ ds)
Unsplit-append [] ds p q s = q
Unsplit-append (c ∷ []) ds p q s = (s, q)
Unsplit-append (c ∷ d ∷ cs) ds p q s = (p.0, Unsplit-append (d ∷ cs) ds p.1 q s)

Unsplit-before : (cs ds : List ℕ) → Unsplit (cs ++ ds) → Unsplit cs
Unsplit-before [] ds p = tt
Unsplit-before (c ∷ []) ds p = (no_pair_by_trail c 0 refl, tt)
Unsplit-before (c ∷ d ∷ cs) ds p = (p.0, Unsplit-before (d ∷ cs) ds p.1)

AreCodePoints-before : (cs ds : List ℕ) → AreCodePoints (cs ++ ds) → AreCodePoints cs
AreCodePoints-before [] ds a = tt
AreCodePoints-before (c ∷ cs) ds a = (a.0, AreCodePoints-before cs ds a.1)

surrogate_count-append : (cs ds : List ℕ) → surrogate_count (cs ++ ds) ≡ surrogate_count cs + surrogate_count ds
surrogate_count-append [] ds = omega arith
surrogate_count-append (c ∷ cs) ds = omega (arith, surrogate_count-append cs ds)

-- ---- what bytes with these code points are

pub record Text (bytes cs : List ℕ) : Type 0 where
  pub text : IsWtf8 bytes
  pub chars_are : chars bytes ≡ cs
  pub units_are : units_of bytes ≡ flat_map encode_utf16 cs

pub text_of_points : (bytes cs : List ℕ) → Points bytes cs → Text bytes cs
text_of_points bytes cs p =
    let e = ap chars (sym p.bytes_are) ∙ chars-of_encodes cs p.codes in
    record { text = IsWtf8-points bytes cs p; chars_are = e; units_are = ap (λ (l : List ℕ). flat_map encode_utf16 l) e }

-- What a push of these units leaves.
pub record Pushed (old more new : List ℕ) (count : ℕ) : Type 0 where
  pub is : IsCounted new count
  pub units_are : units_of new ≡ units_of old ++ units_of more

-- ---- no pair at the seam

pub apart : (b v : List ℕ) (m n : ℕ) → IsCounted b m → IsWtf8 v → n ≡ surrogate_count (chars v) → StandApart b v → Pushed b v (b ++ v) (m + n)
apart b v m n p w k s =
    let x = points b p.text in
    let y = points v w in
    let t = text_of_points (b ++ v) (chars b ++ chars v) (record {
      codes = AreCodePoints-append (chars b) (chars v) x.codes y.codes;
      unsplit = Unsplit-append (chars b) (chars v) x.unsplit y.unsplit s;
      bytes_are = encodes-append (chars b) (chars v) ∙ ap₂ (λ (l r : List ℕ). l ++ r) x.bytes_are y.bytes_are;
    }) in
    record {
      is = record { text = t.text; counted = ap₂ (λ (i j : ℕ). i + j) p.counted k ∙ sym (surrogate_count-append (chars b) (chars v)) ∙ ap surrogate_count (sym t.chars_are) };
      units_are = t.units_are ∙ flat_map-append encode_utf16 (chars b) (chars v);
    }

-- ---- a pair at the seam

three_bytes : (c : ℕ) → 55296 ≤ c → c < 57344 → length (encode c) ≡ 3
three_bytes c l h = ap length (three c (omega arith) (omega arith))

take_before : (xs ys : List ℕ) → length ys ≡ 3 → take (length (xs ++ ys) - 3) (xs ++ ys) ≡ xs
take_before xs ys e =
    let n : length (xs ++ ys) - 3 ≡ length xs = omega (arith, length-append xs ys) in
    ap (λ (i : ℕ). take i (xs ++ ys)) n ∙ take-append_seam xs ys

drop_after : (xs ys : List ℕ) → length xs ≡ 3 → drop 3 (xs ++ ys) ≡ ys
drop_after xs ys e = ap (λ (i : ℕ). drop i (xs ++ ys)) (sym e) ∙ drop-append_seam xs ys

-- What a pair at the seam says.
pub record Seam (b v : List ℕ) (m n c : ℕ) : Type 0 where
  pub long_before : 3 ≤ length b
  pub long_after : 3 ≤ length v
  pub some_before : 1 ≤ m
  pub some_after : 1 ≤ n
  pub four_bytes : 65536 ≤ c
  pub pushed : Pushed b v (take (length b - 3) b ++ (encode c ++ drop 3 v)) (m - 1 + (n - 1))

pub joined_seam : (b v : List ℕ) (m n c : ℕ) → IsCounted b m → IsWtf8 v → n ≡ surrogate_count (chars v) → JoinTo b v c → Seam b v m n c
joined_seam b v m n c p w k j =
    let x = subst (Points b) j.ends (points b p.text) in
    let y = subst (Points v) j.begins (points v w) in
    let pairs = and_parts (is_lead j.lead) (is_trail j.trail) j.pairs in
    let h = lead_range j.lead pairs.0 in
    let t = trail_range j.trail pairs.1 in
    let h_bytes = three_bytes j.lead h.0 (omega (arith, h.1)) in
    let t_bytes = three_bytes j.trail (omega (arith, t.0)) t.1 in
    let low : 65536 ≤ c = omega (arith, j.code, h.0, t.0) in
    let top : c < 1114112 = omega (arith, j.code, h.0, h.1, t.0, t.1) in
    let first : 55296 + (c - 65536) / 1024 ≡ j.lead = omega (arith, j.code, h.0, h.1, t.0, t.1) in
    let second : 56320 + (c - 65536) % 1024 ≡ j.trail = omega (arith, j.code, h.0, h.1, t.0, t.1) in
    let b_is : encodes j.front ++ encode j.lead ≡ b = ap (λ (l : List ℕ). encodes j.front ++ l) (sym (append-nil (encode j.lead))) ∙ sym (encodes-append j.front (j.lead ∷ [])) ∙ x.bytes_are in
    let v_is : encode j.trail ++ encodes j.back ≡ v = y.bytes_are in
    let before : take (length b - 3) b ≡ encodes j.front = ap (λ (l : List ℕ). take (length l - 3) l) (sym b_is) ∙ take_before (encodes j.front) (encode j.lead) h_bytes in
    let after : drop 3 v ≡ encodes j.back = ap (λ (l : List ℕ). drop 3 l) (sym v_is) ∙ drop_after (encode j.trail) (encodes j.back) t_bytes in
    let z = text_of_points (take (length b - 3) b ++ (encode c ++ drop 3 v)) (j.front ++ c ∷ j.back) (record {
      codes = AreCodePoints-append j.front (c ∷ j.back) (AreCodePoints-before j.front (j.lead ∷ []) x.codes) (top, y.codes.1);
      unsplit = Unsplit-append j.front (c ∷ j.back) (Unsplit-before j.front (j.lead ∷ []) x.unsplit) (no_pair_by_lead c (get_or j.back 0 0) (no_lead c (inr (omega arith))), y.unsplit.1) (no_pair_by_trail (last_or_0 j.front) c (no_trail c (inr (omega arith))));
      bytes_are = encodes-append j.front (c ∷ j.back) ∙ ap₂ (λ (l r : List ℕ). l ++ (encode c ++ r)) (sym before) (sym after);
    }) in
    let b_units : units_of b ≡ flat_map encode_utf16 j.front ++ j.lead ∷ [] = (text_of_points b _ x).units_are ∙ flat_map-append encode_utf16 j.front (j.lead ∷ []) ∙ ap (λ (l : List ℕ). flat_map encode_utf16 j.front ++ (l ++ [])) (encode_utf16-short j.lead (omega (arith, h.1))) in
    let v_units : units_of v ≡ j.trail ∷ flat_map encode_utf16 j.back = (text_of_points v _ y).units_are ∙ ap (λ (l : List ℕ). l ++ flat_map encode_utf16 j.back) (encode_utf16-short j.trail (omega (arith, t.1))) in
    let pair : encode_utf16 c ≡ j.lead ∷ j.trail ∷ [] = encode_utf16-long c low ∙ ap₂ (λ (i k' : ℕ). i ∷ k' ∷ []) first second in
    let z_units : flat_map encode_utf16 (j.front ++ c ∷ j.back) ≡ flat_map encode_utf16 j.front ++ (j.lead ∷ j.trail ∷ flat_map encode_utf16 j.back) = flat_map-append encode_utf16 j.front (c ∷ j.back) ∙ ap (λ (l : List ℕ). flat_map encode_utf16 j.front ++ (l ++ flat_map encode_utf16 j.back)) pair in
    let lead_counts : is_surrogate j.lead ≡ true = surrogate j.lead h.0 (omega (arith, h.1)) in
    let trail_counts : is_surrogate j.trail ≡ true = surrogate j.trail (omega (arith, t.0)) t.1 in
    let m_is : m ≡ surrogate_count j.front + 1 = p.counted ∙ ap surrogate_count j.ends ∙ surrogate_count-append j.front (j.lead ∷ []) ∙ ap (λ (q : Bool). surrogate_count j.front + (cond q 1 0 + 0)) lead_counts in
    let n_is : n ≡ 1 + surrogate_count j.back = k ∙ ap surrogate_count j.begins ∙ ap (λ (q : Bool). cond q 1 0 + surrogate_count j.back) trail_counts in
    let z_is : surrogate_count (j.front ++ c ∷ j.back) ≡ surrogate_count j.front + (0 + surrogate_count j.back) = surrogate_count-append j.front (c ∷ j.back) ∙ ap (λ (q : Bool). surrogate_count j.front + (cond q 1 0 + surrogate_count j.back)) (no_surrogate c low) in
    let count_is : m - 1 + (n - 1) ≡ surrogate_count (j.front ++ c ∷ j.back) = omega (arith, m_is, n_is, z_is) in
    record {
      long_before = omega (arith, ap length b_is, length-append (encodes j.front) (encode j.lead), h_bytes);
      long_after = omega (arith, ap length v_is, length-append (encode j.trail) (encodes j.back), t_bytes);
      some_before = omega (arith, m_is);
      some_after = omega (arith, n_is);
      four_bytes = low;
      pushed = record {
        is = record { text = z.text; counted = count_is ∙ ap surrogate_count (sym z.chars_are) };
        units_are = z.units_are ∙ z_units ∙ sym (ap₂ (λ (l r : List ℕ). l ++ r) b_units v_units ∙ append_assoc (flat_map encode_utf16 j.front) (j.lead ∷ []) (j.trail ∷ flat_map encode_utf16 j.back));
      };
    }
  where
    surrogate : (u : ℕ) → 55296 ≤ u → u < 57344 → is_surrogate u ≡ true
    surrogate u l h = grind (arith, nat_tests)

    no_surrogate : (u : ℕ) → 65536 ≤ u → is_surrogate u ≡ false
    no_surrogate u l = grind (arith, nat_tests)

-- ---- counts

surrogate_count_le : (cs : List ℕ) → surrogate_count cs ≤ length cs
surrogate_count_le [] = omega arith
surrogate_count_le (c ∷ cs) = omega (arith, surrogate_count_le cs, at_most_1 (is_surrogate c))
  where
    at_most_1 : (b : Bool) → cond b 1 0 ≤ 1
    at_most_1 true = omega arith
    at_most_1 false = omega arith

-- a count is no more than the bytes
pub count_le : (bytes : List ℕ) (count : ℕ) → IsCounted bytes count → count ≤ length bytes
count_le bytes count k =
    let p = points bytes k.text in
    omega (arith, k.counted, surrogate_count_le (chars bytes), length-le-encodes (chars bytes), ap length p.bytes_are)

-- ---- by the last of these and the first of those

last_or_0-push : (cs : List ℕ) (c : ℕ) → last_or_0 (cs ++ c ∷ []) ≡ c
last_or_0-push [] c = refl
last_or_0-push (d ∷ []) c = refl
last_or_0-push (d ∷ e ∷ cs) c = last_or_0-push (e ∷ cs) c

pub stand_apart : (bytes more front back : List ℕ) (c d : ℕ) → chars bytes ≡ front ++ c ∷ [] → chars more ≡ d ∷ back → is_pair c d ≡ false → StandApart bytes more
stand_apart bytes more front back c d e f s =
    ap₂ (λ (x y : ℕ). is_pair x y) (ap last_or_0 e ∙ last_or_0-push front c) (ap (λ (l : List ℕ). get_or l 0 0) f) ∙ s

-- ---- as `append` meets them: s is what `joint` was handed for b

pub apart_after : (b v s : List ℕ) (m n : ℕ) → s ≡ b → IsCounted b m → IsWtf8 v → n ≡ surrogate_count (chars v) → StandApart s v → Pushed b v (b ++ v) (m + n)
apart_after b v s m n e p w k a = apart b v m n p w k (subst (λ (l : List ℕ). StandApart l v) e a)

pub seam_after : (b v s : List ℕ) (m n c : ℕ) → s ≡ b → IsCounted b m → IsWtf8 v → n ≡ surrogate_count (chars v) → JoinTo s v c → Seam b v m n c
seam_after b v s m n c e p w k j = joined_seam b v m n c p w k (subst (λ (l : List ℕ). JoinTo l v c) e j)
