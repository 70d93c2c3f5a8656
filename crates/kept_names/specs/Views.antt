-- The places of a list with their bindings, in code and in the definitions.
use Rattle.std.specs.Prelude.{◌≡◌, List, map}
use Rattle.std.specs.List.{Contains}
use Rattle.kept_names.specs.declared.bound.BoundPlace.{BoundPlace}
use Rattle.place_list.specs.TableViews.{place_in, places_in}
use Rattle.place_list.specs.declared.tables.PlaceList.{PlaceList}
use Rattle.scope_rules.specs.Bindings.{Bound, bound, same_name, shadower}
use Rattle.scope_tables.specs.Views.{Stands}
use Rattle.tree_nodes.specs.Tree.{Text}

unfoldable pub bound_of : PlaceList → BoundPlace → Bound Text
bound_of l b = record { place = place_in l b.place; binding = b.binding }

abbrev pub bounds_of : PlaceList → List BoundPlace → List (Bound Text)
bounds_of l bs = map (bound_of l) bs

-- its shadower is its place's
abbrev pub IsShadowed : PlaceList → BoundPlace → Type 0
IsShadowed l b = b.shadower ≡ shadower same_name (places_in l) (place_in l b.place)

-- the numbers of all these places are those of the tables
abbrev pub AllStand : PlaceList → List BoundPlace → Type 0
AllStand l bs = (b : BoundPlace) → Contains bs b → Stands l b.place

-- these are all places of the list, with their bindings and shadowers
pub record AreWhole (l : PlaceList) (bs : List BoundPlace) : Type 0 where
  pub are : bounds_of l bs ≡ bound same_name (places_in l)
  pub shadowed : (b : BoundPlace) → Contains bs b → IsShadowed l b
  pub stand : AllStand l bs
