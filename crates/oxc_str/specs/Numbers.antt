-- A list that gives its first item at each call gives them all.
use Rattle.std.specs.Iterator.{AlwaysYields, YieldsFirst}
use Rattle.std.specs.Prelude.{ℕ, List, [], ◌∷◌}
use Rattle.std.proofs.Common.{sym, ap, subst}

abbrev IsNil : List ℕ → Type 0
IsNil [] = Unit {0}
IsNil (x ∷ xs) = ⊥

abbrev IsCons : List ℕ → Type 0
IsCons [] = ⊥
IsCons (x ∷ xs) = Unit {0}

abbrev head_or : ℕ → List ℕ → ℕ
head_or d [] = d
head_or d (x ∷ xs) = x

abbrev tail : List ℕ → List ℕ
tail [] = []
tail (x ∷ xs) = xs

abbrev GivesAll : List ℕ → List ℕ → Type 0
GivesAll rest xs = AlwaysYields (YieldsFirst (λ (rest : List ℕ). rest)) (λ (x : ℕ). x) rest xs

pub first_by_first : (xs : List ℕ) → AlwaysYields (YieldsFirst (λ (rest : List ℕ). rest)) (λ (x : ℕ). x) xs xs
first_by_first [] = λ x j e. subst IsNil e tt
first_by_first (y ∷ ys) = (
  λ j e. subst IsCons e.0 tt,
  λ x j e. (sym (ap (head_or y) e), subst (λ (rest : List ℕ). GivesAll rest ys) (ap tail e) (first_by_first ys)),
)
