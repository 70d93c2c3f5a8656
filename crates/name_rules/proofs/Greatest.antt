-- The greatest of a list's values: no more than a bound of all, and no less than each.
use Rattle.std.specs.Prelude.{◌≡◌, ◌⊎◌, ℕ, ◌≤◌, max, true, List, [], ◌∷◌, map}
use Rattle.std.specs.List.{list_any}
use Rattle.std.proofs.Common.{refl, subst, arith, inl, inr}
use Rattle.std.proofs.lemmas.Bool.{or_cases, both_ways}
use Rattle.tree_places.proofs.Outwards.{same_scope_eq}
use Rattle.tree_places.specs.Scopes.{Scope, same_scope}
use Rattle.name_rules.specs.Groups.{greatest}
use Rattle.name_rules.specs.Open.{all_open}

pub greatest_at_most : (f : Scope → ℕ) (ss : List Scope) (n : ℕ) → ((s : Scope) → f s ≤ n) → greatest (map f ss) ≤ n
unfolding all_open
greatest_at_most f [] n h = omega arith
greatest_at_most f (s ∷ ss) n h = let i : f s ≤ n = h s in let j : greatest (map f ss) ≤ n = greatest_at_most f ss n h in omega arith

pub greatest_at : (f : Scope → ℕ) (ss : List Scope) (s : Scope) → list_any (same_scope s) ss ≡ true → f s ≤ greatest (map f ss)
unfolding all_open
greatest_at f [] s h = absurd (both_ways _ refl h)
greatest_at f (r ∷ rs) s h = go (or_cases _ _ h) (greatest_at f rs s)
  where
    go : (same_scope s r ≡ true) ⊎ (list_any (same_scope s) rs ≡ true) → (list_any (same_scope s) rs ≡ true → f s ≤ greatest (map f rs)) → f s ≤ max (f r) (greatest (map f rs))
    go (inl e) ih = subst (λ (x : Scope). f s ≤ max (f x) (greatest (map f rs))) (same_scope_eq s r e) (omega arith)
    go (inr e) ih = let i : f s ≤ greatest (map f rs) = ih e in omega arith
