-- Sets of nodes in scopes.
use Rattle.std.specs.Prelude.{◌≡◌, ℕ, Bool, not, ◌&&◌, ◌||◌, nat_eq, List, Option, None, if◌then◌else◌}
use Rattle.std.specs.BTreeSet.{BTreeSet, contains_by}
use Rattle.std.specs.List.{Contains, list_any}
use Rattle.std.specs.Ordering.{nat_cmp, ordering_then}
use Rattle.scope_rules.specs.Bindings.{is_binding}
use Rattle.scope_rules.specs.Evals.{contains}
use Rattle.scope_rules.specs.Faults.{binds_in, declares_in_head}
use Rattle.place_list.specs.TableViews.{heads_at}
use Rattle.scope_rules.specs.Homes.{names_function}
use Rattle.scope_tables.specs.Views.{Stands, bound_of, bounds_of, home_number}
use Rattle.scope_tables.specs.declared.key.NodeInScope.{NodeInScope}
use Rattle.scope_tables.specs.declared.bound.BoundPlace.{BoundPlace}
use Rattle.place_list.specs.declared.tables.PlaceList.{PlaceList}

-- whether a set has the node n in the scope f
abbrev pub has : BTreeSet NodeInScope → ℕ → ℕ → Bool
has s f n = contains_by (λ k. ordering_then (nat_cmp f k.scope) (nat_cmp n k.node)) s

-- the set has the bindings that lie in each scope, function-names aside
abbrev pub HasBodies : PlaceList → List BoundPlace → BTreeSet NodeInScope → Type 0
HasBodies l bs s = (f n : ℕ) → has s f n ≡ list_any (binds_in f n) (bounds_of l bs)

-- it has the bindings of which a place declares in each scope's parameters or catch pattern
abbrev pub HasHeads : PlaceList → List BoundPlace → BTreeSet NodeInScope → Type 0
HasHeads l bs s = (f n : ℕ) → has s f n ≡ list_any (declares_in_head f n) (bounds_of l bs)

-- a set with the node m in each scope along the heads from one
abbrev pub PutsHeads : PlaceList → BTreeSet NodeInScope → Option ℕ → ℕ → BTreeSet NodeInScope → Type 0
PutsHeads l old head m new = (f n : ℕ) → has new f n ≡ (has old f n || (nat_eq m n && contains (heads_at l head) f))

-- of these, a node in a scope that is among the bodies and not among the heads
abbrev pub is_open_body : BTreeSet NodeInScope → BTreeSet NodeInScope → ℕ → ℕ → Bool
is_open_body bodies heads n f = has bodies f n && not (has heads f n)

-- the scope in which a place lies that is its own binding, and no function-name
unfoldable pub body_scope : PlaceList → BoundPlace → Option ℕ
body_scope l b = if is_binding (bound_of l b) && not (names_function (bound_of l b).place.site) then home_number b.place else None

-- the numbers of all these places are those of the tables
abbrev pub AllBoundStand : PlaceList → List BoundPlace → Type 0
AllBoundStand l bs = (b : BoundPlace) → Contains bs b → Stands l b.place
