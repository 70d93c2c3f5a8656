-- The first place that declares a name in a scope, of those that declare in one way.
use Rattle.std.specs.Prelude.{◌≡◌, ℕ, Bool, ◌&&◌, List, [], ◌∷◌, ◌++◌, Option, find}
use Rattle.std.specs.BTreeMap.{BTreeMap}
use Rattle.std.specs.List.{Contains}
use Rattle.place_list.specs.TableViews.{scope_at}
use Rattle.place_list.specs.declared.tables.PlaceEntry.{PlaceEntry}
use Rattle.place_list.specs.declared.tables.PlaceList.{PlaceList}
use Rattle.scope_rules.specs.Bindings.{at_home, node_of, same_name}
use Rattle.scope_rules.specs.Homes.{declares_plainly, is_single, names_function}
use Rattle.scope_tables.specs.Keys.{at_key, number_from}
use Rattle.scope_tables.specs.Views.{AllStand, IsScope, places_of}
use Rattle.scope_tables.specs.declared.key.Key.{Key}
use Rattle.scope_tables.specs.declared.sites.Declaring.{Declaring}
use Rattle.scope_tables.specs.declared.sites.Declaring.TheVariants.{AsFunctionName, Plainly, Singly}
use Rattle.tree_nodes.specs.Tree.{Text}
use Rattle.tree_places.specs.Places.{Place, Site}
use Rattle.tree_places.specs.Scopes.{Scope}

-- a site declares in this way
unfoldable pub passes : Declaring → Site → Bool
passes Plainly s = declares_plainly s
passes AsFunctionName s = names_function s
passes Singly s = is_single s

unfoldable pub passes_at : Declaring → Text → Scope → Place → Bool
passes_at d x h p = passes d p.site && at_home same_name x h p

unfoldable pub first_at : Declaring → List Place → Text → Scope → Option ℕ
first_at d ps x h = node_of (find (passes_at d x h) ps)

-- for each scope, and the name of each of all these places, the map has the first one of some of them
abbrev pub HoldsFirsts : Declaring → PlaceList → List PlaceEntry → List PlaceEntry → BTreeMap Key ℕ → Type 0
HoldsFirsts d l all some m =
    (s : Option ℕ) → IsScope l s → (q : PlaceEntry) → Contains all q → at_key m (number_from s) q.name_number ≡ first_at d (places_of l some) q.name.now (scope_at l s)

-- a map that has the first ones of some places has those of these and one more
abbrev pub TakesIn : Declaring → PlaceList → PlaceEntry → BTreeMap Key ℕ → BTreeMap Key ℕ → Type 0
TakesIn d l p old new = (all some : List PlaceEntry) → AllStand l all → Contains all p → HoldsFirsts d l all some old → HoldsFirsts d l all (some ++ p ∷ []) new
