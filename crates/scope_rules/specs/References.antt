-- The references of a tree. A reference has the number of references before it, whether it has a binding or not.
use Rattle.std.specs.Prelude.{ℕ, Bool, true, false, not, ◌&&◌, List, is_some, filter}
use Rattle.std.specs.List.{list_any}
use Rattle.tree_nodes.specs.declared.table.Role.{Role}
use Rattle.tree_nodes.specs.declared.table.Role.TheVariants.{Called, Read, ReadWrite, Write}
use Rattle.tree_places.specs.Places.{Named}
use Rattle.scope_rules.specs.Bindings.{binding, is_node}
use Rattle.scope_rules.specs.Homes.{refers}
use Rattle.scope_rules.specs.Symbols.{indices, symbol_of}

-- by number: in printing order
unfoldable pub references : {N : Type 0} → List (Named N) → List (Named N)
references ps = filter (λ p. refers p.site) ps

-- what a reference does with its binding
unfoldable pub reads : Role → Bool
reads Read = true
reads ReadWrite = true
reads Called = true
reads _ = false

unfoldable pub writes : Role → Bool
writes Write = true
writes ReadWrite = true
writes _ = false

-- the numbers of the references to the symbol k
unfoldable pub symbol_references : {N : Type 0} → (N → N → Bool) → List (Named N) → ℕ → List ℕ
symbol_references same ps k = indices (λ p. is_node (symbol_of same ps p) k) (references ps)

-- a reference under this name has no binding
unfoldable pub is_unresolved : {N : Type 0} → (N → N → Bool) → List (Named N) → N → Bool
is_unresolved same ps x = list_any (λ p. refers p.site && not (is_some (binding same ps p)) && same x p.name) ps
