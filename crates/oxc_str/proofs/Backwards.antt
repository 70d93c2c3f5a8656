-- Where the last code point of bytes of generalized UTF-8 begins.
use Rattle.std.proofs.Common.{◌≡◌, ℕ, zero, suc, ◌<◌, ◌≤◌, ◌+◌, ◌-◌, ◌⊎◌, ⊎_elim, inl, inr, List, [], ◌∷◌, ◌++◌, append-nil, length-append, get_or, length, take, arith, sym, ap, ◌∙◌, refl, subst}
use Rattle.std.specs.Str.{chars}
use Rattle.std.proofs.Math.Seq.{take-append_seam, drop-append_seam}
use Rattle.std.proofs.lemmas.Bool.{cases_lt}
use Rattle.std.proofs.lemmas.List.{get_or-append-add}
use Rattle.std.proofs.lemmas.Str.{encodes-append}
use lib.Utf8.{encode, encodes}
use Rattle.oxc_str.specs.JSChars.{IsGeneralizedUtf8, EndsFrom}
use Rattle.oxc_str.specs.Wtf8Buffer.{last_or_0}
use Rattle.oxc_str.proofs.CodePoints.{IsCodePoint, AreCodePoints, Follows, Shape, of1, of2, of3, of4, shape, chars-of_encodes, chars_before}
use Rattle.oxc_str.proofs.Decoding.{AreCodePoints-are_code_points, IsGeneralizedUtf8-encodes}

-- ---- the bytes of one code point

abbrev Leads : ℕ → Type 0
Leads b = (b < 128) ⊎ (192 ≤ b)

record Bytes (bs : List ℕ) : Type 0 where
  some : 0 < length bs
  leads : Leads (get_or bs 0 0)
  follows : (k : ℕ) → 0 < k → k < length bs → Follows (get_or bs k 0)

after_one : (x k : ℕ) → 0 < k → k < 1 → Follows (get_or (x ∷ []) k 0)
after_one x k l h = absurd (omega arith)

after_two : (x y : ℕ) → Follows y → (k : ℕ) → 0 < k → k < 2 → Follows (get_or (x ∷ y ∷ []) k 0)
after_two x y f zero l h = absurd (omega arith)
after_two x y f (suc zero) l h = f
after_two x y f (suc (suc k)) l h = absurd (omega arith)

after_three : (x y z : ℕ) → Follows y → Follows z → (k : ℕ) → 0 < k → k < 3 → Follows (get_or (x ∷ y ∷ z ∷ []) k 0)
after_three x y z f g zero l h = absurd (omega arith)
after_three x y z f g (suc zero) l h = f
after_three x y z f g (suc (suc zero)) l h = g
after_three x y z f g (suc (suc (suc k))) l h = absurd (omega arith)

after_four : (x y z w : ℕ) → Follows y → Follows z → Follows w → (k : ℕ) → 0 < k → k < 4 → Follows (get_or (x ∷ y ∷ z ∷ w ∷ []) k 0)
after_four x y z w f g j zero l h = absurd (omega arith)
after_four x y z w f g j (suc zero) l h = f
after_four x y z w f g j (suc (suc zero)) l h = g
after_four x y z w f g j (suc (suc (suc zero))) l h = j
after_four x y z w f g j (suc (suc (suc (suc k)))) l h = absurd (omega arith)

bytes-by : (c : ℕ) → Shape c → Bytes (encode c)
bytes-by c (of1 h e) = subst Bytes (sym e) (record { some = omega arith; leads = inl h; follows = after_one c })
bytes-by c (of2 x y l h f s e) = subst Bytes (sym e) (record { some = omega arith; leads = inr l; follows = after_two x y f })
bytes-by c (of3 x y z l h f g s e) = subst Bytes (sym e) (record { some = omega arith; leads = inr (omega arith); follows = after_three x y z f g })
bytes-by c (of4 x y z w l h f g j s e) = subst Bytes (sym e) (record { some = omega arith; leads = inr (omega arith); follows = after_four x y z w f g j })

-- ---- the last of a list

abbrev pub front : List ℕ → List ℕ
front [] = []
front (c ∷ []) = []
front (c ∷ d ∷ cs) = c ∷ front (d ∷ cs)

pub front-last : (c : ℕ) (cs : List ℕ) → front (c ∷ cs) ++ last_or_0 (c ∷ cs) ∷ [] ≡ c ∷ cs
front-last c [] = refl
front-last c (d ∷ cs) = ap (λ (l : List ℕ). c ∷ l) (front-last d cs)

AreCodePoints-front : (cs : List ℕ) → AreCodePoints cs → AreCodePoints (front cs)
AreCodePoints-front [] a = tt
AreCodePoints-front (c ∷ []) a = tt
AreCodePoints-front (c ∷ d ∷ cs) a = (a.0, AreCodePoints-front (d ∷ cs) a.1)

IsCodePoint-last : (c : ℕ) (cs : List ℕ) → AreCodePoints (c ∷ cs) → IsCodePoint (last_or_0 (c ∷ cs))
IsCodePoint-last c [] a = a.0
IsCodePoint-last c (d ∷ cs) a = IsCodePoint-last d cs a.1

-- ---- the last code point

-- where the last code point begins
unfoldable pub last_lead : List ℕ → ℕ
last_lead bs = length (encodes (front (chars bs)))

-- The byte at start is the first of a code point, and those after it go on with it.
pub record Ending (bs : List ℕ) (start : ℕ) : Type 0 where
  pub is : EndsFrom bs start
  pub leads : Leads (get_or bs start 0)
  pub follows : (k : ℕ) → start < k → k < length bs → Follows (get_or bs k 0)

ending_of : (cs : List ℕ) (c : ℕ) → AreCodePoints cs → IsCodePoint c → Ending (encodes cs ++ encode c) (length (encodes cs))
ending_of cs c a h =
    let xs = encodes cs in
    let ys = encode c in
    let b = bytes-by c (shape c h) in
    let one : encodes (c ∷ []) ≡ ys = append-nil ys in
    let alone : chars ys ≡ c ∷ [] = ap chars (sym one) ∙ chars-of_encodes (c ∷ []) (h, tt) in
    let general : IsGeneralizedUtf8 ys = subst IsGeneralizedUtf8 one (IsGeneralizedUtf8-encodes (c ∷ []) (h, tt)) in
    let t = take-append_seam xs ys in
    let d = drop-append_seam xs ys in
    let n = length-append xs ys in
    record {
      is = record {
        split = chars_before cs ys a ∙ ap (λ (l : List ℕ). l ++ chars ys) (sym (ap chars t ∙ chars-of_encodes cs a)) ∙ ap (λ (l : List ℕ). chars (take (length xs) (xs ++ ys)) ++ chars l) (sym d);
        before = subst IsGeneralizedUtf8 (sym t) (IsGeneralizedUtf8-encodes cs a);
        last = subst IsGeneralizedUtf8 (sym d) general;
        one = ap (λ (l : List ℕ). length (chars l)) d ∙ ap length alone;
        within = omega (arith, b.some);
      };
      leads = first xs ys b;
      follows = λ k l w. later xs ys b k l (omega arith);
    }
  where
    first : (xs ys : List ℕ) → Bytes ys → Leads (get_or (xs ++ ys) (length xs) 0)
    first xs ys b =
        let e : length xs + 0 ≡ length xs = omega arith in
        subst Leads (sym (ap (λ (i : ℕ). get_or (xs ++ ys) i 0) (sym e) ∙ get_or-append-add xs ys 0 0)) b.leads

    later : (xs ys : List ℕ) → Bytes ys → (k : ℕ) → length xs < k → k < length xs + length ys → Follows (get_or (xs ++ ys) k 0)
    later xs ys b k l h =
        let e : length xs + (k - length xs) ≡ k = omega arith in
        subst Follows (sym (ap (λ (i : ℕ). get_or (xs ++ ys) i 0) (sym e) ∙ get_or-append-add xs ys (k - length xs) 0)) (b.follows (k - length xs) (omega arith) (omega arith))

ending-by : (bs cs : List ℕ) → chars bs ≡ cs → AreCodePoints cs → encodes cs ≡ bs → 0 < length bs → Ending bs (last_lead bs)
unfolding last_lead
ending-by bs [] s a e l = absurd (omega (arith, ap length e))
ending-by bs (c ∷ cs) s a e l =
    let f = front (c ∷ cs) in
    let z = last_or_0 (c ∷ cs) in
    let is : encodes f ++ encode z ≡ bs =
    ap (λ (l : List ℕ). encodes f ++ l) (sym (append-nil (encode z))) ∙ sym (encodes-append f (z ∷ [])) ∙ ap encodes (front-last c cs) ∙ e in
    let at : length (encodes f) ≡ length (encodes (front (chars bs))) = ap (λ (l : List ℕ). length (encodes (front l))) (sym s) in
    subst (λ (i : ℕ). Ending bs i) at (subst (λ (l : List ℕ). Ending l (length (encodes f))) is (ending_of f z (AreCodePoints-front (c ∷ cs) a) (IsCodePoint-last c cs a)))

pub ending : (bs : List ℕ) → IsGeneralizedUtf8 bs → 0 < length bs → Ending bs (last_lead bs)
ending bs g l = ending-by bs (chars bs) refl (AreCodePoints-are_code_points (chars bs) g.codes) g.whole l

-- a byte that goes on with a code point isn't where the last one begins
pub goes_on : (bs : List ℕ) (start : ℕ) → IsGeneralizedUtf8 bs → 0 < length bs → last_lead bs ≤ start → 128 ≤ get_or bs start 0 → get_or bs start 0 < 192 → last_lead bs < start
goes_on bs start g l low from to = ⊎_elim (λ (h : last_lead bs < start). h)
    (λ (h : start ≤ last_lead bs).
    let same : start ≡ last_lead bs = omega arith in
    absurd (not_both _ (subst (λ (i : ℕ). Leads (get_or bs i 0)) (sym same) (ending bs g l).leads) from to))
    (cases_lt (last_lead bs) start)
  where
    not_both : (b : ℕ) → Leads b → 128 ≤ b → b < 192 → ⊥
    not_both b (inl h) from to = omega arith
    not_both b (inr h) from to = omega arith

-- and one that doesn't is
pub begins_here : (bs : List ℕ) (start : ℕ) → IsGeneralizedUtf8 bs → 0 < length bs → last_lead bs ≤ start → start < length bs → (get_or bs start 0 < 128) ⊎ (192 ≤ get_or bs start 0) → EndsFrom bs start
begins_here bs start g l low high lead = ⊎_elim
    (λ (h : last_lead bs < start). absurd (not_both _ lead ((ending bs g l).follows start h high)))
    (λ (h : start ≤ last_lead bs).
    let same : last_lead bs ≡ start = omega arith in
    subst (EndsFrom bs) same (ending bs g l).is)
    (cases_lt (last_lead bs) start)
  where
    not_both : (b : ℕ) → Leads b → Follows b → ⊥
    not_both b (inl h) f = omega (arith, f.0)
    not_both b (inr h) f = omega (arith, f.1)
