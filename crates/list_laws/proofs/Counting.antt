-- Different items of a list are no more than the list has that holds them.
use Rattle.std.specs.Cmp.{IsEquivalence}
use Rattle.std.specs.List.{AllByRecursion, list_any, IsDistinct}
use Rattle.std.specs.Prelude.{true, Bool, false, List, ℕ, ◌∷◌, ◌≤◌, ◌⊎◌, [], ◌↔◌}
use Rattle.std.proofs.Common.{ap, inr, sym, length, inl, refl, eqb, ◌≡◌, ◌∙◌, ◌<◌}
use Rattle.std.proofs.lemmas.Bool.{both_ways, eqb-true, or_cases, eq-eqb}
use Rattle.std.proofs.lemmas.Map.Made.{length-le_from_is_member}
use Rattle.std.proofs.lemmas.Map.Steps.{length-le_from_distinct_below}
use Rattle.list_laws.proofs.AllOf.{AllOf}
use Rattle.list_laws.proofs.AnyOf.{any_from, any_some}
use Rattle.list_laws.proofs.Members.{In}
use Rattle.list_laws.proofs.PairsOf.{PairsOf}
use Rattle.list_laws.proofs.Tests.{tested}

module _ {X : Type 0} (same : X → X → Bool) (tells : (x y : X) → (same x y ≡ true) ↔ (x ≡ y)) where
  apart_told : (x y : X) → (x ≡ y → ⊥) → same x y ≡ false
  apart_told x y n = tested (same x y) (λ t. absurd (n ((tells x y).0 t))) (λ f. f)

  equivalence : IsEquivalence same
  equivalence = record {
    refl = λ x. (tells x x).1 refl;
    symm = λ x y. tested (same x y)
        (λ t. t ∙ sym ((tells y x).1 (sym ((tells x y).0 t))))
        (λ f. f ∙ sym (apart_told y x (λ e. both_ways _ f ((tells x y).1 (sym e)))));
    congr = λ x y z t. ap (λ w. same w z) ((tells x y).0 t);
  }

  all_apart : (x : X) (xs : List X) → AllOf (λ y. x ≡ y → ⊥) xs → AllByRecursion (λ y. same x y ≡ false) xs
  all_apart x [] a = tt
  all_apart x (y ∷ ys) a = (apart_told x y a.0, all_apart x ys a.1)

  pub distinct_told : (xs : List X) → PairsOf (λ x y. x ≡ y → ⊥) xs → IsDistinct same xs
  unfolding IsDistinct
  distinct_told [] p = tt
  distinct_told (x ∷ xs) p = (all_apart x xs p.0, distinct_told xs p.1)

  pub no_more : (xs ys : List X) → PairsOf (λ x y. x ≡ y → ⊥) xs → ((x : X) → In x xs → In x ys) → length xs ≤ length ys
  no_more xs ys p f = length-le_from_is_member equivalence xs ys (distinct_told xs p)
      (λ q m. let w : (x : X) × In x xs × (same q x ≡ true) = any_some (same q) xs m in any_from (same q) ys w.0 (f w.0 w.1) w.2)

pub numbers_told : (x y : ℕ) → (eqb x y ≡ true) ↔ (x ≡ y)
numbers_told x y = (eqb-true x y, eq-eqb x y)

-- what is listed lies below n, where all items do
listed_below : (n : ℕ) (xs : List ℕ) → AllOf (λ x. x < n) xs → (q : ℕ) → list_any (eqb q) xs ≡ true → q < n
listed_below n [] a q h = absurd (both_ways _ refl h)
listed_below n (x ∷ xs) a q h = go (or_cases _ _ h) (listed_below n xs a.1 q)
  where
    go : (eqb q x ≡ true) ⊎ (list_any (eqb q) xs ≡ true) → (list_any (eqb q) xs ≡ true → q < n) → q < n
    go (inl e) ih = rw (eqb-true q x e) a.0
    go (inr e) ih = ih e

-- different numbers below n are at most n
pub numbers_below : (n : ℕ) (xs : List ℕ) → PairsOf (λ x y. x ≡ y → ⊥) xs → AllOf (λ x. x < n) xs → length xs ≤ n
numbers_below n xs p a = length-le_from_distinct_below xs n (distinct_told eqb numbers_told xs p) (listed_below n xs a)
