-- Numbers of places and scopes rise in printing order.
use Rattle.std.specs.List.{list_any}
use Rattle.std.specs.Prelude.{◌≡◌, ◌⊎◌, ℕ, suc, ◌<◌, ◌≤◌, true, List, [], ◌∷◌, map, reverse}
use Rattle.std.proofs.Common.{refl, sym, ◌∙◌, subst, arith, inl, inr}
use Rattle.std.proofs.lemmas.Bool.{or_cases}
use Rattle.std.proofs.lemmas.List.{append-nil}
use Rattle.list_laws.proofs.Mapped.{map_reverse}
use Rattle.tree_nodes.specs.Along.{all}
use Rattle.tree_nodes.specs.Table.{unlisted}
use Rattle.tree_nodes.specs.Tree.{Parts}
use Rattle.tree_places.proofs.Lineages.{onto, onto_reverse}
use Rattle.tree_places.proofs.Numbers.{Numbered, one_name_each, walk_numbered}
use Rattle.tree_places.proofs.Outwards.{same_scope_eq}
use Rattle.tree_places.proofs.Walks.{Proper, Stepped, walk_good}
use Rattle.tree_places.specs.Laws.{AreNumbered, NumbersRise, RiseFrom}
use Rattle.tree_places.specs.Open.{all_open}
use Rattle.tree_places.specs.Places.{Site, before_all, nothing_yet, seen}
use Rattle.tree_places.specs.Scopes.{Scope, same_scope}

rise_less : (m n : ℕ) (ys : List ℕ) → m ≤ n → RiseFrom n ys → RiseFrom m ys
rise_less m n [] h r = tt
rise_less m n (y ∷ ys) h r = (let i : n ≤ y = r.0 in omega arith, r.1)

rise_onto : (n : ℕ) (ss : List Site) (ys : List ℕ) → Numbered n ss → RiseFrom n ys → RiseFrom 0 (onto (map (λ s. s.node) ss) ys)
unfolding all_open
rise_onto n [] ys p r = rise_less 0 n ys (omega arith) r
rise_onto n (s ∷ ss) ys p r = rise_onto s.node ss (s.node ∷ ys) p.1 (omega arith, rise_less (suc s.node) n ys (let i : s.node < n = p.0 in omega arith) r)

numbered_onto : (ss ys : List Scope) → Proper ss → AreNumbered ss ys → AreNumbered [] (onto ss ys)
unfolding all_open
numbered_onto [] ys p a = a
numbered_onto (s ∷ ss) ys (outer, e, k, p) a = numbered_onto ss (s ∷ ys) p ((outer, e, go (or_cases _ _ k)), a)
  where
    go : (same_scope outer [] ≡ true) ⊎ (list_any (same_scope outer) ss ≡ true) → (outer ≡ []) ⊎ (list_any (same_scope outer) ss ≡ true)
    go (inl h) = inl (same_scope_eq outer [] h)
    go (inr h) = inr h

-- all that the walk of a tree meets is in order
pub tree_good : (t : Parts) → Stepped nothing_yet (seen t)
unfolding all_open
tree_good t = walk_good t (all unlisted) before_all nothing_yet (record { proper = tt; outside = refl; inside = refl; placed = refl })

pub numbers_rise : NumbersRise
unfolding all_open
numbers_rise t = (
  subst (RiseFrom 0) (onto_reverse (map (λ s. s.node) (seen t).sites) [] ∙ append-nil (reverse (map (λ s. s.node) (seen t).sites)) ∙ sym (map_reverse (λ (s : Site). s.node) (seen t).sites))
      (rise_onto (seen t).nodes (seen t).sites [] (walk_numbered t (all unlisted) before_all nothing_yet tt) tt),
  subst (AreNumbered []) (onto_reverse (seen t).scopes [] ∙ append-nil (reverse (seen t).scopes)) (numbered_onto (seen t).scopes [] (tree_good t).proper tt),
  one_name_each t,
)
