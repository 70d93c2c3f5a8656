-- Each text of the characters of names is the short name of some number.
use Rattle.std.specs.List.{list_all, list_any}
use Rattle.std.specs.Prelude.{◌≡◌, ◌≤◌, ◌<◌, ℕ, zero, suc, ◌+◌, ◌*◌, ◌/◌, ◌%◌, true, false, nat_eq, [], ◌∷◌, length, get_or, take}
use Rattle.std.proofs.Common.{refl, sym, ap, ◌∙◌, arith}
use Rattle.std.proofs.lemmas.Bool.{and_parts, both_ways, eqb-true}
use Rattle.list_laws.proofs.AnyOf.{any_some}
use Rattle.list_laws.proofs.Members.{In, found_at}
use Rattle.tree_nodes.specs.Tree.{Text}
use Rattle.name_rules.proofs.FirstUntaken.{spelled_told}
use Rattle.name_rules.proofs.ShortNumbers.{number_told}
use Rattle.name_rules.specs.FreeNames.{is_spelled}
use Rattle.name_rules.specs.NameOrder.{ShortIsItsNumber, ShortIsOnto, number_of_name}
use Rattle.name_rules.specs.Open.{all_open}
use Rattle.name_rules.specs.ShortNames.{candidate, characters, more_characters, short}

-- where a listed character stands
standing : (xs : Text) (c : ℕ) → list_any (nat_eq c) xs ≡ true → (p : ℕ) × (p < length xs) × (get_or xs p 0 ≡ c)
standing xs c h =
    let w : (d : ℕ) × In d xs × (nat_eq c d ≡ true) = any_some (nat_eq c) xs h in
    let f : (p : ℕ) × (p < length xs) × (get_or xs p 0 ≡ w.0) = found_at xs w.0 0 w.1 in
    (f.0, f.1, f.2 ∙ sym (eqb-true c w.0 w.2))

taken_is_same : (n : ℕ) (xs : Text) (p : ℕ) → p < length (take n xs) → get_or (take n xs) p 0 ≡ get_or xs p 0
taken_is_same zero xs p h = absurd (omega (arith, h))
taken_is_same (suc n) [] p h = absurd (omega (arith, h))
taken_is_same (suc n) (x ∷ xs) zero h = refl
taken_is_same (suc n) (x ∷ xs) (suc p) h = taken_is_same n xs p (omega (arith, h))

-- the number that is left for these characters
record Left (cs : Text) : Type 0 where
  number : ℕ
  gives : (fuel : ℕ) → number ≤ fuel → more_characters fuel number ≡ cs

left_for : (cs : Text) → list_all (λ d. list_any (nat_eq d) characters) cs ≡ true → Left cs
unfolding all_open
left_for [] h = record { number = 0; gives = none }
  where
    none : (fuel : ℕ) → 0 ≤ fuel → more_characters fuel 0 ≡ []
    none zero k = refl
    none (suc fuel) k = refl
left_for (c ∷ cs) h =
    let two : (list_any (nat_eq c) characters ≡ true) × (list_all (λ d. list_any (nat_eq d) characters) cs ≡ true) = and_parts _ _ h in
    let l : Left cs = left_for cs two.1 in
    let p : (p : ℕ) × (p < length characters) × (get_or characters p 0 ≡ c) = standing characters c two.0 in
    record { number = suc (p.0 + 64 * l.number); gives = some l p }
  where
    some : (l : Left cs) (p : (p : ℕ) × (p < length characters) × (get_or characters p 0 ≡ c)) (fuel : ℕ) → suc (p.0 + 64 * l.number) ≤ fuel → more_characters fuel (suc (p.0 + 64 * l.number)) ≡ c ∷ cs
    some l p zero k = absurd (omega (arith, k))
    some l p (suc fuel) k =
        let b : p.0 < 64 = p.1 in
        let r : (p.0 + 64 * l.number) % 64 ≡ p.0 = omega (arith, b) in
        let q : (p.0 + 64 * l.number) / 64 ≡ l.number = omega (arith, b) in
        ap (λ n. get_or characters n 0 ∷ more_characters fuel ((p.0 + 64 * l.number) / 64)) r
        ∙ ap (λ n. get_or characters p.0 0 ∷ more_characters fuel n) q
        ∙ ap (λ x. x ∷ more_characters fuel l.number) p.2
        ∙ ap (λ xs. c ∷ xs) (l.gives fuel (omega (arith, k)))

pub spelled_short : (x : Text) → is_spelled x ≡ true → (n : ℕ) × (x ≡ short n)
unfolding all_open
spelled_short [] h = absurd (both_ways _ refl h)
spelled_short (c ∷ cs) h =
    let two : (list_any (nat_eq c) (take 54 characters) ≡ true) × (list_all (λ d. list_any (nat_eq d) characters) cs ≡ true) = and_parts _ _ h in
    let l : Left cs = left_for cs two.1 in
    let p : (p : ℕ) × (p < length (take 54 characters)) × (get_or (take 54 characters) p 0 ≡ c) = standing (take 54 characters) c two.0 in
    let b : p.0 < 54 = p.1 in
    let n : ℕ = p.0 + 54 * l.number in
    let r : (p.0 + 54 * l.number) % 54 ≡ p.0 = omega (arith, b) in
    let q : (p.0 + 54 * l.number) / 54 ≡ l.number = omega (arith, b) in (
      n,
      sym (
          ap (λ m. get_or characters m 0 ∷ more_characters n (n / 54)) r
          ∙ ap (λ m. get_or characters p.0 0 ∷ more_characters n m) q
          ∙ ap (λ y. y ∷ more_characters n l.number) (sym (taken_is_same 54 characters p.0 p.1) ∙ p.2)
          ∙ ap (λ xs. c ∷ xs) (l.gives n (omega arith))),
    )

pub short_is_its_number : ShortIsItsNumber
unfolding candidate
short_is_its_number n = (spelled_told false n, number_told n)

pub short_is_onto : ShortIsOnto
short_is_onto x h =
    let n : (n : ℕ) × (x ≡ short n) = spelled_short x h in
    ap (λ (y : Text). short (number_of_name y)) n.1 ∙ ap short (number_told n.0) ∙ sym n.1
