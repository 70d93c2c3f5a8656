-- Places with what each is bound to.
use Rattle.std.specs.Prelude.{◌≡◌, ◌<◌, ℕ, Bool, not, ◌&&◌, List, map, length, get_or, Option, Some, None, IfSome, is_some, if◌then◌else◌}
use Rattle.std.specs.List.{AllByRecursion, Contains}
use Rattle.place_list.specs.Bounds.{IsBelow}
use Rattle.place_list.specs.TableViews.{place_in, places_in}
use Rattle.place_list.specs.declared.tables.PlaceList.{PlaceList}
use Rattle.scope_rules.specs.Bindings.{binding, is_node, same_name, shadower}
use Rattle.scope_rules.specs.Homes.{is_declaring, is_reference, is_var}
use Rattle.tree_places.specs.Places.{Place}
use Rattle.tree_symbols.specs.declared.known.KnownPlace.{KnownPlace}

unfoldable pub declares : KnownPlace → Bool
declares k = not k.place.private && is_declaring k.place.setting.role

unfoldable pub refers : KnownPlace → Bool
refers k = not k.place.private && is_reference k.place.setting.role

unfoldable pub is_symbol : KnownPlace → Bool
is_symbol k = declares k && is_node k.binding k.place.node

-- the number of the scope in which it declares
unfoldable pub home_number : KnownPlace → Option ℕ
home_number k = if is_var k.place.setting.role then k.place.setting.var_scope else k.place.setting.scope

-- the same, unless it is a function-name that is shadowed there
unfoldable pub listing_scope : KnownPlace → Option ℕ
listing_scope k = if k.shadowed then None else home_number k

-- what is known of a place, among these
pub record IsKnown (l : PlaceList) (ps : List Place) (k : KnownPlace) : Type 0 where
  pub binding_is : k.binding ≡ binding same_name ps (place_in l k.place)
  pub shadowed_is : k.shadowed ≡ is_some (shadower same_name ps (place_in l k.place))
  pub scope : IsBelow (length l.scopes.items) k.place.setting.scope
  pub home : IsBelow (length l.scopes.items) (home_number k)

abbrev pub nodes_of : List KnownPlace → List ℕ
nodes_of ks = map (λ k. k.place.node) ks

-- what a row has at a number
unfoldable pub entry_at : List (Option ℕ) → Option ℕ → Option ℕ
entry_at row None = None
entry_at row (Some n) = get_or row n None

-- the entry of the binding of a place that declares
unfoldable pub declared_by : List (Option ℕ) → KnownPlace → Option ℕ
declared_by row k = if declares k then entry_at row k.binding else None

-- the scopes that list these have numbers below this
abbrev pub AreListed : ℕ → List KnownPlace → Type 0
AreListed scopes ks = AllByRecursion (λ o. IfSome o (λ s. s < scopes)) (map listing_scope ks)

-- the entries of a row are below this
abbrev pub IsRowBelow : ℕ → List (Option ℕ) → Type 0
IsRowBelow count row = (n k : ℕ) → get_or row n None ≡ Some k → k < count

-- these are the places of a list, each with what is known of it
pub record AreKnown (l : PlaceList) (ks : List KnownPlace) : Type 0 where
  pub places_are : map (λ k. k.place) ks ≡ l.places.items
  pub known : (k : KnownPlace) → Contains ks k → IsKnown l (places_in l) k
