-- The groups of bindings, by number.
use Rattle.std.specs.Prelude.{◌≡◌, ℕ, ◌&&◌, nat_eq, List, Option, None, Some, find, option_map, if◌then◌else◌}
use Rattle.std.specs.BTreeMap.{BTreeMap}
use Rattle.std.specs.BTreeSet.{BTreeSet}
use Rattle.std.specs.Option.{option_flatten}
use Rattle.kept_names.specs.Puts.{at_node}
use Rattle.scope_tables.specs.Sets.{has}
use Rattle.kept_names.specs.Views.{IsShadowed, bound_of}
use Rattle.kept_names.specs.declared.bound.BoundPlace.{BoundPlace}
use Rattle.name_rules.specs.Groups.{group_of}
use Rattle.name_rules.specs.Kept.{has_number}
use Rattle.place_list.specs.TableViews.{places_in}
use Rattle.place_list.specs.declared.tables.PlaceList.{PlaceList}
use Rattle.scope_rules.specs.Bindings.{Bound, is_binding, node, or_else, same_name, shadower}
use Rattle.tree_nodes.specs.Tree.{Text}
use Rattle.tree_places.specs.Places.{Place}

-- the set has these numbers
abbrev pub HasNumbers : List ℕ → BTreeSet ℕ → Type 0
HasNumbers ks s = (n : ℕ) → has s n ≡ has_number ks (Some n)

-- what a map says of a binding
unfoldable pub group_in : BTreeMap ℕ (Option ℕ) → Option ℕ → Option ℕ
group_in m None = None
group_in m (Some n) = option_flatten (at_node m n)

-- it has the group of each binding among these
abbrev pub HasGroups : List ℕ → List Place → List (Bound Text) → BTreeMap ℕ (Option ℕ) → Type 0
HasGroups ks ps bs m = (n : ℕ) → at_node m n ≡ option_map (λ b. group_of ks n (shadower same_name ps b.place)) (find (λ b. is_binding b && nat_eq (node b.place) n) bs)

-- a map with the group of one place too, if the place is a binding and has none there yet
abbrev pub TakesGroup : BTreeSet ℕ → BoundPlace → BTreeMap ℕ (Option ℕ) → BTreeMap ℕ (Option ℕ) → Type 0
TakesGroup kept b old new = (l : PlaceList) (ks : List ℕ) → HasNumbers ks kept → IsShadowed l b → (n : ℕ)
    → at_node new n ≡ or_else (at_node old n) (if is_binding (bound_of l b) && nat_eq (node (bound_of l b).place) n then Some (group_of ks n (shadower same_name (places_in l) (bound_of l b).place)) else None)
