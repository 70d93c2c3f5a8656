-- Identifier names by blocks of bytes.
use Rattle.std.proofs.Common.{◌≡◌, ℕ, ◌+◌, ◌-◌, ◌<◌, ◌≤◌, Bool, true, false, nat_eq, nat_lt, bit_or, List, [], ◌∷◌, ◌++◌, length, take, take-add, take_all, drop, get_or, lit≤, refl, sym, ◌∙◌, ap, subst, arith, IsUtf8, chars}
use Rattle.std.proofs.lemmas.Bool.{and_parts, eqb-true, false_from_ne_true, ltb-true}
use Rattle.std.proofs.lemmas.List.{length-drop, take-append-drop}
use Rattle.std.proofs.lemmas.List.Folds.{list_all-append}
use Rattle.std.proofs.lemmas.Nat.{le_or_l, le_or_r}
use Rattle.std.proofs.lemmas.Str.{IsCharBoundary-from_take, IsUtf8-from_ascii, chars-IsAscii, chars-append}
use Rattle.std.proofs.lemmas.Str.Ascii.{IsAscii-cons, IsAscii-nil}
use Rattle.std.specs.List.{list_all}
use Rattle.std.specs.Str.{IsAscii, IsCharBoundary}
use Rattle.syntax_lex.specs.Identifier.{BeginsWithParts, is_ascii_part, is_identifier_part, is_taken, is_taken_part}

both_below : (a b : ℕ) → bit_or a b < 128 → (a < 128) × (b < 128)
both_below a b below = (omega (arith, le_or_l a b), omega (arith, le_or_r a b))

-- bytes are ASCII where their bits together are
pub ascii_front_4 : (bs : List ℕ) → 4 ≤ length bs
    → bit_or (bit_or (bit_or (get_or bs 0 0) (get_or bs 1 0)) (get_or bs 2 0)) (get_or bs 3 0) < 128
    → IsAscii (take 4 bs)
ascii_front_4 [] long below = absurd (omega arith)
ascii_front_4 (a ∷ []) long below = absurd (omega arith)
ascii_front_4 (a ∷ b ∷ []) long below = absurd (omega arith)
ascii_front_4 (a ∷ b ∷ c ∷ []) long below = absurd (omega arith)
ascii_front_4 (a ∷ b ∷ c ∷ d ∷ rest) long below =
    let abc = both_below (bit_or (bit_or a b) c) d below in
    let ab = both_below (bit_or a b) c abc.0 in
    let a_b = both_below a b ab.0 in
    IsAscii-cons a (b ∷ c ∷ d ∷ []) a_b.0 (IsAscii-cons b (c ∷ d ∷ []) a_b.1 (IsAscii-cons c (d ∷ []) ab.1 (IsAscii-cons d [] abc.1 IsAscii-nil)))

pub ascii_front_8 : (bs : List ℕ) → 8 ≤ length bs
    → bit_or (bit_or (bit_or (bit_or (bit_or (bit_or (bit_or (get_or bs 0 0) (get_or bs 1 0)) (get_or bs 2 0)) (get_or bs 3 0)) (get_or bs 4 0)) (get_or bs 5 0)) (get_or bs 6 0)) (get_or bs 7 0) < 128
    → IsAscii (take 8 bs)
ascii_front_8 [] long below = absurd (omega arith)
ascii_front_8 (a ∷ []) long below = absurd (omega arith)
ascii_front_8 (a ∷ b ∷ []) long below = absurd (omega arith)
ascii_front_8 (a ∷ b ∷ c ∷ []) long below = absurd (omega arith)
ascii_front_8 (a ∷ b ∷ c ∷ d ∷ []) long below = absurd (omega arith)
ascii_front_8 (a ∷ b ∷ c ∷ d ∷ e ∷ []) long below = absurd (omega arith)
ascii_front_8 (a ∷ b ∷ c ∷ d ∷ e ∷ f ∷ []) long below = absurd (omega arith)
ascii_front_8 (a ∷ b ∷ c ∷ d ∷ e ∷ f ∷ g ∷ []) long below = absurd (omega arith)
ascii_front_8 (a ∷ b ∷ c ∷ d ∷ e ∷ f ∷ g ∷ h ∷ rest) long below =
    let upto_h = both_below (bit_or (bit_or (bit_or (bit_or (bit_or (bit_or a b) c) d) e) f) g) h below in
    let upto_g = both_below (bit_or (bit_or (bit_or (bit_or (bit_or a b) c) d) e) f) g upto_h.0 in
    let upto_f = both_below (bit_or (bit_or (bit_or (bit_or a b) c) d) e) f upto_g.0 in
    let upto_e = both_below (bit_or (bit_or (bit_or a b) c) d) e upto_f.0 in
    let upto_d = both_below (bit_or (bit_or a b) c) d upto_e.0 in
    let upto_c = both_below (bit_or a b) c upto_d.0 in
    let upto_b = both_below a b upto_c.0 in
    IsAscii-cons a (b ∷ c ∷ d ∷ e ∷ f ∷ g ∷ h ∷ []) upto_b.0 (IsAscii-cons b (c ∷ d ∷ e ∷ f ∷ g ∷ h ∷ []) upto_b.1 (IsAscii-cons c (d ∷ e ∷ f ∷ g ∷ h ∷ []) upto_c.1 (IsAscii-cons d (e ∷ f ∷ g ∷ h ∷ []) upto_d.1 (IsAscii-cons e (f ∷ g ∷ h ∷ []) upto_e.1 (IsAscii-cons f (g ∷ h ∷ []) upto_f.1 (IsAscii-cons g (h ∷ []) upto_g.1 (IsAscii-cons h [] upto_h.1 IsAscii-nil)))))))

-- what `&bytes[n..]` is
pub slice_from : (bytes : List ℕ) (n : ℕ) → take (length bytes - n) (drop n bytes) ≡ drop n bytes
slice_from bytes n = take_all (length bytes - n) (drop n bytes) (omega (arith, length-drop n bytes))

-- a run of parts and a block of them behind it
pub parts_more : (bytes : List ℕ) (n k : ℕ) → list_all is_ascii_part (take n bytes) ≡ true
    → BeginsWithParts k (take (length bytes - n) (drop n bytes)) → list_all is_ascii_part (take (n + k) bytes) ≡ true
parts_more bytes n k run part =
    let block = subst (λ (rest : List ℕ). BeginsWithParts k rest) (slice_from bytes n) part in
    rw (take-add n k bytes, list_all-append is_ascii_part (take n bytes) (take k (drop n bytes)), run, block.parts) refl

pub parts_longer : (bytes : List ℕ) (n k : ℕ) → n ≤ length bytes → BeginsWithParts k (take (length bytes - n) (drop n bytes))
    → n + k ≤ length bytes
parts_longer bytes n k within part =
    let block = subst (λ (rest : List ℕ). BeginsWithParts k rest) (slice_from bytes n) part in
    omega (arith, block.long_enough, length-drop n bytes)

-- ASCII parts are ASCII, and taken
parts_are_ascii : (bs : List ℕ) → list_all is_ascii_part bs ≡ true → IsAscii bs
parts_are_ascii [] parts = IsAscii-nil
parts_are_ascii (b ∷ bs) parts =
    let each = and_parts (is_ascii_part b) (list_all is_ascii_part bs) parts in
    let ascii = and_parts (nat_lt b 128) (is_identifier_part b) each.0 in
    IsAscii-cons b bs (ltb-true b 128 ascii.0) (parts_are_ascii bs each.1)

other : (b n : ℕ) → b < 128 → 128 ≤ n → b ≡ n → ⊥
other b n below above e = omega arith

ascii_is_taken : (patched : Bool) (b : ℕ) → b < 128 → is_taken patched b ≡ true
ascii_is_taken false b below = refl
ascii_is_taken true b below =
    let first : nat_eq b 12539 ≡ false = false_from_ne_true (nat_eq b 12539) (λ e. other b 12539 below (lit≤ tt) (eqb-true b 12539 e)) in
    let second : nat_eq b 65381 ≡ false = false_from_ne_true (nat_eq b 65381) (λ e. other b 65381 below (lit≤ tt) (eqb-true b 65381 e)) in
    rw (first, second) refl

parts_are_taken : (patched : Bool) (bs : List ℕ) → list_all is_ascii_part bs ≡ true → list_all (is_taken_part patched) bs ≡ true
parts_are_taken patched [] parts = refl
parts_are_taken patched (b ∷ bs) parts =
    let each = and_parts (is_ascii_part b) (list_all is_ascii_part bs) parts in
    let ascii = and_parts (nat_lt b 128) (is_identifier_part b) each.0 in
    rw (ascii.1, ascii_is_taken patched b (ltb-true b 128 ascii.0)) (parts_are_taken patched bs each.1)

pub parts_cut : (text : List ℕ) (n : ℕ) → IsUtf8 text → n ≤ length text → list_all is_ascii_part (take n text) ≡ true
    → IsCharBoundary text n
parts_cut text n utf8 within parts =
    IsCharBoundary-from_take text n utf8 within (IsUtf8-from_ascii (take n text) (parts_are_ascii (take n text) parts))

pub taken_parts : (patched : Bool) (text : List ℕ) (n : ℕ) → list_all is_ascii_part (take n text) ≡ true
    → list_all (is_taken_part patched) (chars (drop n text)) ≡ list_all (is_taken_part patched) (chars text)
taken_parts patched text n parts =
    let ascii = parts_are_ascii (take n text) parts in
    let whole : chars text ≡ take n text ++ chars (drop n text) =
    ap chars (sym (take-append-drop n text)) ∙ chars-append (take n text) (drop n text) (IsUtf8-from_ascii (take n text) ascii)
    ∙ ap (λ cs. cs ++ chars (drop n text)) (chars-IsAscii (take n text) ascii) in
    let all = list_all-append (is_taken_part patched) (take n text) (chars (drop n text)) in
    sym (ap (λ cs. list_all (is_taken_part patched) cs) whole ∙ all ∙ rw (parts_are_taken patched (take n text) parts) refl)
