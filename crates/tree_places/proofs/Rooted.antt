-- The scopes of a tree's places are among the tree's scopes.
use Rattle.std.specs.List.{list_all, list_any}
use Rattle.std.specs.Prelude.{◌≡◌, ◌⊎◌, true, false, List, [], ◌∷◌, ◌++◌, length, reverse}
use Rattle.std.proofs.Common.{refl, ◌∙◌, subst, inl, inr}
use Rattle.std.proofs.lemmas.Bool.{or_cases, or_left, or_right, and_parts, both_ways}
use Rattle.std.proofs.lemmas.Grind.{reverse_onto}
use Rattle.list_laws.proofs.AllOf.{AllOf, AllOf_push}
use Rattle.tree_nodes.specs.Tree.{Parts}
use Rattle.tree_places.proofs.Outwards.{same_scope_eq, same_scope_refl}
use Rattle.tree_places.proofs.Rising.{tree_good}
use Rattle.tree_places.proofs.Walks.{Proper, known}
use Rattle.tree_places.specs.Open.{all_open}
use Rattle.tree_places.specs.Places.{Site, scopes, seen, sites}
use Rattle.tree_places.specs.Scopes.{Scope, is_inside, same_scope}

known_none : (ss : List Scope) (x y : Scope) → x ≡ [] → is_inside x y ≡ true → known ss y ≡ true
unfolding all_open
known_none ss x y e i = or_left _ _ (subst (λ (z : Scope). same_scope z [] ≡ true) (same_scope_eq [] y (subst (λ (z : Scope). is_inside z y ≡ true) e i)) refl)

-- what a known scope lies in is known
pub known_outwards : (ss : List Scope) → Proper ss → (x y : Scope) → known ss x ≡ true → is_inside x y ≡ true → known ss y ≡ true
unfolding all_open
known_outwards [] p x y k i = go (or_cases _ _ k)
  where
    go : (same_scope x [] ≡ true) ⊎ (false ≡ true) → known [] y ≡ true
    go (inl e) = known_none [] x y (same_scope_eq x [] e) i
    go (inr e) = absurd (both_ways false refl e)
known_outwards (s ∷ ss) (outer, e, ko, p) x y k i = go (or_cases _ _ k) (known_outwards ss p outer y ko) (λ h. known_outwards ss p x y h i)
  where
    more : known ss y ≡ true → known (s ∷ ss) y ≡ true
    more h = wider (or_cases _ _ h)
      where
        wider : (same_scope y [] ≡ true) ⊎ (list_any (same_scope y) ss ≡ true) → known (s ∷ ss) y ≡ true
        wider (inl q) = or_left _ _ q
        wider (inr q) = or_right _ _ (or_right _ _ q)

    first : x ≡ s → (is_inside outer y ≡ true → known ss y ≡ true) → known (s ∷ ss) y ≡ true
    first q ih = at (or_cases _ _ (subst (λ (z : Scope). is_inside z y ≡ true) (q ∙ e) i))
      where
        at : (same_scope (length ss ∷ outer) y ≡ true) ⊎ (is_inside outer y ≡ true) → known (s ∷ ss) y ≡ true
        at (inl h) = or_right _ _ (or_left _ _ (subst (λ (z : Scope). same_scope z s ≡ true) (e ∙ same_scope_eq (length ss ∷ outer) y h) (same_scope_refl s)))
        at (inr h) = more (ih h)

    go : (same_scope x [] ≡ true) ⊎ (list_any (same_scope x) (s ∷ ss) ≡ true) → (is_inside outer y ≡ true → known ss y ≡ true) → (known ss x ≡ true → known ss y ≡ true) → known (s ∷ ss) y ≡ true
    go (inl h) ih jh = known_none (s ∷ ss) x y (same_scope_eq x [] h) i
    go (inr h) ih jh = at (or_cases _ _ h)
      where
        at : (same_scope x s ≡ true) ⊎ (list_any (same_scope x) ss ≡ true) → known (s ∷ ss) y ≡ true
        at (inl q) = first (same_scope_eq x s q) ih
        at (inr q) = more (jh (or_right _ _ q))

any_reverse : (x : Scope) (ss : List Scope) → list_any (same_scope x) ss ≡ true → list_any (same_scope x) (reverse ss) ≡ true
unfolding all_open
any_reverse x [] h = h
any_reverse x (s ∷ ss) h = rw (reverse_onto ss s []) (go (or_cases _ _ h) (any_reverse x ss))
  where
    last : (rs : List Scope) → same_scope x s ≡ true → list_any (same_scope x) (rs ++ s ∷ []) ≡ true
    last [] e = or_left _ _ e
    last (r ∷ rs) e = or_right _ _ (last rs e)

    before : (rs : List Scope) → list_any (same_scope x) rs ≡ true → list_any (same_scope x) (rs ++ s ∷ []) ≡ true
    before [] e = absurd (both_ways false refl e)
    before (r ∷ rs) e = at (or_cases _ _ e) (before rs)
      where
        at : (same_scope x r ≡ true) ⊎ (list_any (same_scope x) rs ≡ true) → (list_any (same_scope x) rs ≡ true → list_any (same_scope x) (rs ++ s ∷ []) ≡ true) → list_any (same_scope x) ((r ∷ rs) ++ s ∷ []) ≡ true
        at (inl q) ih = or_left _ _ q
        at (inr q) ih = or_right _ _ (ih q)

    go : (same_scope x s ≡ true) ⊎ (list_any (same_scope x) ss ≡ true) → (list_any (same_scope x) ss ≡ true → list_any (same_scope x) (reverse ss) ≡ true) → list_any (same_scope x) (reverse ss ++ s ∷ []) ≡ true
    go (inl e) ih = last (reverse ss) e
    go (inr e) ih = before (reverse ss) (ih e)

abbrev Reaches : Parts → Site → Type 0
Reaches t s = (y : Scope) → is_inside s.setting.scope y ≡ true → (y ≡ [] → ⊥) → list_any (same_scope y) (scopes t) ≡ true

-- a scope around a place, if it is one, is one of the tree's
pub scopes_around : (t : Parts) → AllOf (Reaches t) (sites t)
unfolding all_open
scopes_around t = reversed (seen t).sites (each (seen t).sites (tree_good t).placed)
  where
    found : (y : Scope) → known (seen t).scopes y ≡ true → (y ≡ [] → ⊥) → list_any (same_scope y) (reverse (seen t).scopes) ≡ true
    found y k n = at (or_cases _ _ k)
      where
        at : (same_scope y [] ≡ true) ⊎ (list_any (same_scope y) (seen t).scopes ≡ true) → list_any (same_scope y) (reverse (seen t).scopes) ≡ true
        at (inl e) = absurd (n (same_scope_eq y [] e))
        at (inr e) = any_reverse y (seen t).scopes e

    each : (ss : List Site) → list_all (λ x. known (seen t).scopes x.setting.scope) ss ≡ true → AllOf (Reaches t) ss
    each [] a = tt
    each (s ∷ ss) a = (λ y i n. found y (known_outwards (seen t).scopes (tree_good t).proper s.setting.scope y (and_parts _ _ a).0 i) n, each ss (and_parts _ _ a).1)

    reversed : (ss : List Site) → AllOf (Reaches t) ss → AllOf (Reaches t) (reverse ss)
    reversed [] a = tt
    reversed (s ∷ ss) a = rw (reverse_onto ss s []) (AllOf_push (Reaches t) (reverse ss) s (reversed ss a.1) a.0)
