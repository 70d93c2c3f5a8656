-- Scopes as lists outwards: at or inside, and chains.
use Rattle.std.specs.Prelude.{◌≡◌, ◌⊎◌, ℕ, true, [], ◌∷◌, length, ◌≤◌}
use Rattle.std.proofs.Common.{refl, ap, subst, arith, inl, inr}
use Rattle.std.proofs.lemmas.Bool.{or_cases, or_left, or_right, both_ways}
use Rattle.std.proofs.lemmas.Slice.Eq.{bytes_eq-Decides}
use Rattle.tree_places.specs.Open.{all_open}
use Rattle.tree_places.specs.Scopes.{Scope, is_inside, same_scope}

pub same_scope_refl : (s : Scope) → same_scope s s ≡ true
unfolding all_open
same_scope_refl s = (bytes_eq-Decides s s).1 refl

pub same_scope_eq : (s r : Scope) → same_scope s r ≡ true → s ≡ r
unfolding all_open
same_scope_eq s r = (bytes_eq-Decides s r).0

pub inside_refl : (s : Scope) → is_inside s s ≡ true
unfolding all_open
inside_refl [] = refl
inside_refl (n ∷ ns) = or_left _ _ (same_scope_refl (n ∷ ns))

abbrev parent : Scope → Scope
parent [] = []
parent (n ∷ ns) = ns

-- at or inside a scope is at or inside its parent
pub inside_parent : (s : Scope) (n : ℕ) (ns : Scope) → is_inside s (n ∷ ns) ≡ true → is_inside s ns ≡ true
unfolding all_open
inside_parent [] n ns h = absurd (both_ways _ refl h)
inside_parent (m ∷ ms) n ns h = or_right _ _ (go (or_cases _ _ h) (inside_parent ms n ns))
  where
    go : (same_scope (m ∷ ms) (n ∷ ns) ≡ true) ⊎ (is_inside ms (n ∷ ns) ≡ true) → (is_inside ms (n ∷ ns) ≡ true → is_inside ms ns ≡ true) → is_inside ms ns ≡ true
    go (inl e) ih = subst (λ (r : Scope). is_inside ms r ≡ true) (ap parent (same_scope_eq (m ∷ ms) (n ∷ ns) e)) (inside_refl ms)
    go (inr e) ih = ih e

pub inside_trans : (s r q : Scope) → is_inside s r ≡ true → is_inside r q ≡ true → is_inside s q ≡ true
unfolding all_open
inside_trans s [] q h k = subst (λ (x : Scope). is_inside s x ≡ true) (same_scope_eq [] q k) h
inside_trans s (n ∷ ns) q h k = go (or_cases _ _ k) (inside_trans s ns q (inside_parent s n ns h))
  where
    go : (same_scope (n ∷ ns) q ≡ true) ⊎ (is_inside ns q ≡ true) → (is_inside ns q ≡ true → is_inside s q ≡ true) → is_inside s q ≡ true
    go (inl e) ih = subst (λ (x : Scope). is_inside s x ≡ true) (same_scope_eq (n ∷ ns) q e) h
    go (inr e) ih = ih e

-- the scopes outside one are a chain
pub chain : (s a b : Scope) → is_inside s a ≡ true → is_inside s b ≡ true → (is_inside a b ≡ true) ⊎ (is_inside b a ≡ true)
unfolding all_open
chain [] a b h k = inl (subst (λ (x : Scope). is_inside x b ≡ true) (same_scope_eq [] a h) k)
chain (n ∷ ns) a b h k = go (or_cases _ _ h) (or_cases _ _ k) (chain ns a b)
  where
    go : (same_scope (n ∷ ns) a ≡ true) ⊎ (is_inside ns a ≡ true) → (same_scope (n ∷ ns) b ≡ true) ⊎ (is_inside ns b ≡ true)
        → (is_inside ns a ≡ true → is_inside ns b ≡ true → (is_inside a b ≡ true) ⊎ (is_inside b a ≡ true)) → (is_inside a b ≡ true) ⊎ (is_inside b a ≡ true)
    go (inl e) f ih = inl (subst (λ (x : Scope). is_inside x b ≡ true) (same_scope_eq (n ∷ ns) a e) k)
    go (inr e) (inl f) ih = inr (subst (λ (x : Scope). is_inside x a ≡ true) (same_scope_eq (n ∷ ns) b f) h)
    go (inr e) (inr f) ih = ih e f

pub inside_length : (s r : Scope) → is_inside s r ≡ true → length r ≤ length s
unfolding all_open
inside_length [] r h = rw (← same_scope_eq [] r h) (omega arith)
inside_length (n ∷ ns) r h = go (or_cases _ _ h) (inside_length ns r)
  where
    go : (same_scope (n ∷ ns) r ≡ true) ⊎ (is_inside ns r ≡ true) → (is_inside ns r ≡ true → length r ≤ length ns) → length r ≤ length (n ∷ ns)
    go (inl e) ih = subst (λ (x : Scope). length x ≤ length (n ∷ ns)) (same_scope_eq (n ∷ ns) r e) (omega arith)
    go (inr e) ih = let j : length r ≤ length ns = ih e in omega arith

pub inside_antisym : (s r : Scope) → is_inside s r ≡ true → is_inside r s ≡ true → s ≡ r
unfolding all_open
inside_antisym [] r h k = same_scope_eq [] r h
inside_antisym (n ∷ ns) r h k = go (or_cases _ _ h)
  where
    go : (same_scope (n ∷ ns) r ≡ true) ⊎ (is_inside ns r ≡ true) → n ∷ ns ≡ r
    go (inl e) = same_scope_eq (n ∷ ns) r e
    go (inr e) =
        let i : length r ≤ length ns = inside_length ns r e in
        let j : length (n ∷ ns) ≤ length r = inside_length r (n ∷ ns) k in
        absurd (omega arith)
