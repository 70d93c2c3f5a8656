-- The entries of a list, and the places for which they stand.
use Rattle.std.specs.Prelude.{ℕ, List, map, length, Option, if◌then◌else◌}
use Rattle.std.specs.List.{Contains}
use Rattle.place_list.specs.Bounds.{IsBelow, IsBounded, IsKnown}
use Rattle.place_list.specs.Names.{AreNumbered}
use Rattle.place_list.specs.TableViews.{entry_view, list_view, lists_in, place_in}
use Rattle.place_list.specs.Tables as tables
use Rattle.place_list.specs.declared.tables.PlaceEntry.{PlaceEntry}
use Rattle.place_list.specs.declared.tables.PlaceList.{PlaceList}
use Rattle.scope_rules.specs.Bindings.{Bound}
use Rattle.scope_rules.specs.Homes.{is_var}
use Rattle.scope_tables.specs.declared.bound.BoundPlace.{BoundPlace}
use Rattle.tree_nodes.specs.Tree.{Text}
use Rattle.tree_places.specs.Places.{Place, Site}

abbrev pub site_in : PlaceList → PlaceEntry → Site
site_in l e = tables.site_of (lists_in l) (entry_view e)

-- the places for which some of its entries stand
abbrev pub places_of : PlaceList → List PlaceEntry → List Place
places_of l es = map (place_in l) es

-- the nodes of the entries
abbrev pub nodes_of : List PlaceEntry → List ℕ
nodes_of es = map (λ e. e.node) es

unfoldable pub bound_of : PlaceList → BoundPlace → Bound Text
bound_of l b = record { place = place_in l b.place; binding = b.binding }

abbrev pub bounds_of : PlaceList → List BoundPlace → List (Bound Text)
bounds_of l bs = map (bound_of l) bs

-- the number of the scope in which it declares
unfoldable pub home_number : PlaceEntry → Option ℕ
home_number e = if is_var e.setting.role then e.setting.var_scope else e.setting.scope

-- none, or the number of a scope
abbrev pub IsScope : PlaceList → Option ℕ → Type 0
IsScope l o = IsBelow (length l.scopes.items) o

-- the list is bounded, and the numbers of the entry are those of its tables
pub record Stands (l : PlaceList) (e : PlaceEntry) : Type 0 where
  pub bounded : IsBounded (list_view l)
  pub known : IsKnown (list_view l) e.setting

-- so it is with all of these entries, and their names are numbered
pub record AllStand (l : PlaceList) (es : List PlaceEntry) : Type 0 where
  pub stands : (e : PlaceEntry) → Contains es e → Stands l e
  pub numbered : AreNumbered es
