-- The symbols of a tree. A symbol is a binding, and has the number of bindings before it.
use Rattle.std.specs.Prelude.{ℕ, suc, Bool, not, ◌&&◌, nat_eq, List, [], ◌∷◌, map, drop, Option, Some, None, is_some, option_map, find, filter, if◌then◌else◌}
use Rattle.tree_places.specs.Places.{Named}
use Rattle.tree_places.specs.Scopes.{Scope}
use Rattle.scope_rules.specs.Bindings.{binding, is_node, node, shadower}
use Rattle.scope_rules.specs.Homes.{declares, home}

-- a place that is its own binding
unfoldable pub is_symbol : {N : Type 0} → (N → N → Bool) → List (Named N) → Named N → Bool
is_symbol same ps p = declares p.site && is_node (binding same ps p) (node p)

-- by number: in printing order
unfoldable pub symbols : {N : Type 0} → (N → N → Bool) → List (Named N) → List (Named N)
symbols same ps = filter (is_symbol same ps) ps

-- the number of the first of these places that is the node n
unfoldable pub number_among : {N : Type 0} → List (Named N) → ℕ → Option ℕ
number_among [] n = None
number_among (b ∷ bs) n = if nat_eq (node b) n then Some 0 else option_map (λ k. suc k) (number_among bs n)

-- the number of the binding of a place, if it has one
unfoldable pub symbol_of : {N : Type 0} → (N → N → Bool) → List (Named N) → Named N → Option ℕ
symbol_of same ps p = elim (binding same ps p) [ None ↦ None | Some n ↦ number_among (symbols same ps) n ]

-- the same of the place that is the node n, if one is
unfoldable pub node_symbol : {N : Type 0} → (N → N → Bool) → List (Named N) → ℕ → Option ℕ
node_symbol same ps n = elim (find (λ p. nat_eq (node p) n) ps) [ None ↦ None | Some p ↦ symbol_of same ps p ]

-- ---- where a symbol is declared

-- the place declares the symbol k
unfoldable pub declares_symbol : {N : Type 0} → (N → N → Bool) → List (Named N) → ℕ → Named N → Bool
declares_symbol same ps k p = declares p.site && is_node (symbol_of same ps p) k

unfoldable pub declaring_places : {N : Type 0} → (N → N → Bool) → List (Named N) → ℕ → List (Named N)
declaring_places same ps k = filter (declares_symbol same ps k) ps

-- the nodes of its further declaring places, after the first, which is the symbol itself
unfoldable pub redeclarations : {N : Type 0} → (N → N → Bool) → List (Named N) → ℕ → List ℕ
redeclarations same ps k = drop 1 (map node (declaring_places same ps k))

-- ---- the symbols of a scope

-- the number of a scope; none lies outside all
unfoldable pub own_number : Scope → Option ℕ
own_number [] = None
own_number (n ∷ outer) = Some n

-- the indices at which a test passes, if the list begins at index n
unfoldable pub indices_from : {X : Type 0} → ℕ → (X → Bool) → List X → List ℕ
indices_from n test [] = []
indices_from n test (x ∷ xs) = if test x then n ∷ indices_from (suc n) test xs else indices_from (suc n) test xs

unfoldable pub indices : {X : Type 0} → (X → Bool) → List X → List ℕ
indices test xs = indices_from 0 test xs

-- the symbol is declared in the scope of this number, and is no function-name that is shadowed there
unfoldable pub is_symbol_of_scope : {N : Type 0} → (N → N → Bool) → List (Named N) → ℕ → Named N → Bool
is_symbol_of_scope same ps s b = not (is_some (shadower same ps b)) && is_node (own_number (home b.site)) s

-- their numbers
unfoldable pub scope_symbols : {N : Type 0} → (N → N → Bool) → List (Named N) → ℕ → List ℕ
scope_symbols same ps s = indices (is_symbol_of_scope same ps s) (symbols same ps)
