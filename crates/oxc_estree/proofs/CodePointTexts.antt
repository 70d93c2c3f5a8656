-- The text of code points is that of their code units.
use Rattle.std.proofs.Common.{◌≡◌, ℕ, suc, ◌+◌, ◌-◌, ◌*◌, ◌/◌, ◌%◌, ◌<◌, ◌≤◌, ⊎_elim, inr, List, [], ◌∷◌, ◌++◌, Bool, true, false, cond, nat_le, nat_lt, Option, Some, None, encode_utf8, length, get_or, drop, drop-cons, drop_of_length-le, ap, ◌∙◌, sym, refl, arith, append-nil, append_assoc, IsTrue}
use Rattle.std.proofs.lemmas.Bool.{cases_lt}
use Rattle.std.proofs.lemmas.Bool.Decides.{nat_tests}
use Rattle.std.specs.Char.Escape.{encode_utf16}
use Rattle.std.proofs.lemmas.Iterator.{YieldsList}
use Rattle.std.proofs.lemmas.Iterator.Consumers.{YieldsList-at}
use Rattle.std.specs.Iterator.{Count}
use Rattle.std.specs.Option.{ForSome}
use Rattle.json_text.specs.Strings.{char_text, flush, is_lead, is_trail, joined, quoted_units, unit_text, units_text, waits}
use Rattle.oxc_estree.specs.CodePoints.{Gives, point_char, point_text, point_units, points_units}
use Rattle.json_text.proofs.Units.{encode_utf16-long, encode_utf16-short}
use Rattle.oxc_estree.proofs.Units.{high_text, lead, no_lead, no_trail, trail}

unit_text-point : (p : Option ℕ) (c : ℕ) → c < 65536 → unit_text p c ≡ point_text p c
unit_text-point p c h = by_tests (is_lead c) (is_trail c) refl refl
  where
    by_tests : (u v : Bool) → is_lead c ≡ u → is_trail c ≡ v → unit_text p c ≡ point_text p c
    by_tests true true a b = absurd (grind (arith, nat_tests))
    by_tests true false a b = rw (a, b) (sym (append-nil (flush p)))
    by_tests false true a b = rw (a, b) refl
    by_tests false false a b =
        let k : nat_le 0x110000 c ≡ false = grind (arith, nat_tests) in
        rw (a, b, k) refl

low_point : (p : Option ℕ) (c : ℕ) (us : List ℕ) → c < 65536 → units_text p (point_units c ++ us) ≡ point_text p c ++ units_text (waits c) us
low_point p c us h =
    let is : point_units c ≡ c ∷ [] = let k : nat_lt c 0x110000 ≡ true = grind (arith, nat_tests) in ap (λ u. cond u (encode_utf16 c) (0xfffd ∷ [])) k ∙ encode_utf16-short c h in
    ap (λ (t : List ℕ). units_text p (t ++ us)) is ∙ ap (λ (t : List ℕ). t ++ units_text (waits c) us) (unit_text-point p c h)

pair_text : (p : Option ℕ) (h t : ℕ) (us : List ℕ) → is_lead h ≡ true → is_lead t ≡ false → is_trail t ≡ true →
    units_text p (h ∷ t ∷ us) ≡ flush p ++ (encode_utf8 (joined h t) ++ units_text None us)
pair_text p h t us a b c = rw (a, b, c) refl

-- neither a surrogate nor too large
plain_point : (p : Option ℕ) (c d : ℕ) → is_lead c ≡ false → is_trail c ≡ false → point_char c ≡ d → point_text p c ≡ flush p ++ char_text d
plain_point p c d a b e = rw (a, b) (ap (λ x. flush p ++ char_text x) (rw (a, b) at e))

waits_not : (c : ℕ) → is_lead c ≡ false → waits c ≡ None
waits_not c a = ap (λ u. cond u (Some c) None) a

high_point : (p : Option ℕ) (c : ℕ) (us : List ℕ) → 65536 ≤ c → c < 1114112 → units_text p (point_units c ++ us) ≡ point_text p c ++ units_text (waits c) us
high_point p c us h s =
    let x : ℕ = c - 65536 in
    let small : x / 1024 < 1024 = omega arith in
    let rest : x % 1024 < 1024 = omega arith in
    let whole : 1024 * (x / 1024) + x % 1024 ≡ x = omega arith in
    let j : joined (55296 + x / 1024) (56320 + x % 1024) ≡ c = omega arith in
    let a : is_lead c ≡ false = no_lead c (inr (omega arith)) in
    let b : is_trail c ≡ false = no_trail c (inr (omega arith)) in
    let char : point_char c ≡ c = let k : nat_le 0x110000 c ≡ false = grind (arith, nat_tests) in rw (a, b, k) refl in
    let is : point_units c ≡ (55296 + x / 1024) ∷ (56320 + x % 1024) ∷ [] =
    let k : nat_lt c 0x110000 ≡ true = grind (arith, nat_tests) in ap (λ u. cond u (encode_utf16 c) (0xfffd ∷ [])) k ∙ encode_utf16-long c h in
    ap (λ (t : List ℕ). units_text p (t ++ us)) is
    ∙ pair_text p (55296 + x / 1024) (56320 + x % 1024) us (lead (55296 + x / 1024) (omega arith) (omega arith))
    (no_lead (56320 + x % 1024) (inr (omega arith))) (trail (56320 + x % 1024) (omega arith) (omega arith))
    ∙ ap (λ k. flush p ++ (encode_utf8 k ++ units_text None us)) j
    ∙ ap (λ (t : List ℕ). flush p ++ (t ++ units_text None us)) (sym (high_text c h))
    ∙ sym (append_assoc (flush p) (char_text c) (units_text None us))
    ∙ ap (λ (t : List ℕ). t ++ units_text None us) (sym (plain_point p c c a b char))
    ∙ ap (λ q. point_text p c ++ units_text q us) (sym (waits_not c a))

large_point : (p : Option ℕ) (c : ℕ) (us : List ℕ) → 1114112 ≤ c → units_text p (point_units c ++ us) ≡ point_text p c ++ units_text (waits c) us
large_point p c us h =
    let a : is_lead c ≡ false = no_lead c (inr (omega arith)) in
    let b : is_trail c ≡ false = no_trail c (inr (omega arith)) in
    let char : point_char c ≡ 0xfffd = let k : nat_le 0x110000 c ≡ true = grind (arith, nat_tests) in rw (a, b, k) refl in
    let is : point_units c ≡ 0xfffd ∷ [] = let k : nat_lt c 0x110000 ≡ false = grind (arith, nat_tests) in ap (λ u. cond u (encode_utf16 c) (0xfffd ∷ [])) k in
    ap (λ (t : List ℕ). units_text p (t ++ us)) is
    ∙ ap (λ (t : List ℕ). t ++ units_text None us) (sym (plain_point p c 0xfffd a b char))
    ∙ ap (λ q. point_text p c ++ units_text q us) (sym (waits_not c a))

-- what is left to write once one more is written
pub point_next : (p : Option ℕ) (c : ℕ) (us : List ℕ) → units_text p (point_units c ++ us) ≡ point_text p c ++ units_text (waits c) us
point_next p c us = ⊎_elim (low_point p c us) above (cases_lt c 65536)
  where
    above : 65536 ≤ c → units_text p (point_units c ++ us) ≡ point_text p c ++ units_text (waits c) us
    above h = ⊎_elim (high_point p c us h) (large_point p c us) (cases_lt c 1114112)

pub waits-lead : (c : ℕ) → ForSome (waits c) (λ u. IsTrue (is_lead u))
waits-lead c = by_test (is_lead c) refl
  where
    by_test : (u : Bool) → is_lead c ≡ u → ForSome (cond u (Some c) None) (λ x. IsTrue (is_lead x))
    by_test true e = λ x q. let k : c ≡ x = grind arith in rw k at e
    by_test false e = λ x q. absurd (cc q)

-- the runs of an iterator that gives these
pub gives_road : {S : Type 0} {can : S → Type 0} {left : S → Count} {steps : S → Option ℕ → S → Type 0} {s t : S} {items : List ℕ} →
    Gives can left steps s items → t ≡ s → YieldsList steps (λ (x : ℕ). x) t items
gives_road g e = YieldsList-at e (record { runs = g.yields })

-- Code points on the way: what was written after the quotation mark, the lead that waits, and how many
-- code points that were.
pub record ArePointsUnderWay (points : List ℕ) (done : List ℕ) (p : Option ℕ) (count : ℕ) : Type 0 where
  pub lead : ForSome p (λ u. IsTrue (is_lead u))
  pub whole : units_text None (points_units points) ≡ done ++ units_text p (points_units (drop count points))

pub points_begin : (points : List ℕ) → ArePointsUnderWay points [] None 0
points_begin points = record { lead = λ x q. absurd (cc q); whole = refl }

pub points_next : {points done : List ℕ} {p : Option ℕ} {n c : ℕ} → ArePointsUnderWay points done p n → n < length points → c ≡ get_or points n c →
    ArePointsUnderWay points (done ++ point_text p c) (waits c) (suc n)
points_next {points} {done} {p} {n} {c} u h e = record {
  lead = waits-lead c;
  whole = u.whole
      ∙ ap (λ (cs : List ℕ). done ++ units_text p (points_units cs)) (drop-cons points n c h ∙ ap (λ d. d ∷ drop (suc n) points) (sym e))
      ∙ ap (λ (t : List ℕ). done ++ t) (point_next p c (points_units (drop (suc n) points)))
      ∙ sym (append_assoc done (point_text p c) (units_text (waits c) (points_units (drop (suc n) points))));
}

-- all are written but for the lead that waits
pub points_end : {points done : List ℕ} {p : Option ℕ} {n : ℕ} → ArePointsUnderWay points done p n → n ≡ length points →
    quoted_units (points_units points) ≡ (34 ∷ done) ++ (flush p ++ 34 ∷ [])
points_end {points} {done} {p} {n} u e =
    let long : length points ≤ n = omega (arith, e) in
    let none : drop n points ≡ [] = drop_of_length-le points long in
    ap (λ (t : List ℕ). 34 ∷ (t ++ 34 ∷ [])) (u.whole ∙ ap (λ (cs : List ℕ). done ++ units_text p (points_units cs)) none)
    ∙ ap (λ (t : List ℕ). 34 ∷ t) (append_assoc done (flush p) (34 ∷ []))

-- one more is being written
pub points_at : {points done : List ℕ} {p : Option ℕ} {n c : ℕ} → ArePointsUnderWay points done p n → n < length points → c ≡ get_or points n c →
    quoted_units (points_units points) ≡ (34 ∷ done) ++ (point_text p c ++ (units_text (waits c) (points_units (drop (suc n) points)) ++ 34 ∷ []))
points_at {points} {done} {p} {n} {c} u h e =
    let v = points_next u h e in
    let rest = units_text (waits c) (points_units (drop (suc n) points)) in
    ap (λ (t : List ℕ). 34 ∷ (t ++ 34 ∷ [])) v.whole
    ∙ ap (λ (t : List ℕ). 34 ∷ t) (append_assoc (done ++ point_text p c) rest (34 ∷ []) ∙ append_assoc done (point_text p c) (rest ++ 34 ∷ []))
