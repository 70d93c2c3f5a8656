-- The laws on the places of a tree.
use Rattle.std.specs.Prelude.{◌≡◌, ◌≤◌, ◌⊎◌, ℕ, suc, true, List, [], ◌∷◌, map, length, ⊤, IsTrue, IsFalse}
use Rattle.std.specs.List.{AllByRecursion, list_any}
use Rattle.tree_nodes.specs.Standing.{is_placed}
use Rattle.tree_nodes.specs.Tree.{Parts, Tree, alone}
use Rattle.tree_places.specs.Enclosing.{enclosed_in, said, said_by}
use Rattle.tree_places.specs.Lineage.{found, found_by, lines_of, openers_of}
use Rattle.tree_places.specs.Places.{names, scopes, sites, withs}
use Rattle.tree_places.specs.Renaming.{IsRenamed}
use Rattle.tree_places.specs.Scopes.{Scope, is_inside, same_scope}

-- a tree and the same tree renamed have the same sites, scopes, and scopes around WithStatements
abbrev pub RenamingMovesNoPlace : Type 0
RenamingMovesNoPlace = (t u : Parts) → IsRenamed t u → (sites u ≡ sites t) × (scopes u ≡ scopes t) × (withs u ≡ withs t)

-- the number, the scope and the nearest var scope of each place, in printing order, are those that its lineage says
abbrev pub ScopesAreNearest : Type 0
ScopesAreNearest = (t : Parts) → map found (sites t) ≡ map (found_by (openers_of t)) (lines_of t)

-- what holds where each place stands, in printing order, is what its enclosing nodes say: the class bodies around it, the scopes in whose parameters or catch pattern it lies, whether its code is strict, whether it lies in the declaration of an export
abbrev pub EnclosingNodesTell : Type 0
EnclosingNodesTell = (t : Parts) → map said (sites t) ≡ map said_by (enclosed_in t)

-- each number is at least n, and greater than the one before
abbrev pub RiseFrom : ℕ → List ℕ → Type 0
RiseFrom n [] = ⊤
RiseFrom n (m ∷ ms) = (n ≤ m) × RiseFrom (suc m) ms

-- each scope is the number of those before it and then one of those, or none
abbrev pub AreNumbered : List Scope → List Scope → Type 0
AreNumbered before [] = ⊤
AreNumbered before (s ∷ ss) =
    ((outer : Scope) × (s ≡ length before ∷ outer) × ((outer ≡ []) ⊎ (list_any (same_scope outer) before ≡ true))) × AreNumbered (s ∷ before) ss

-- the numbers of places and of scopes rise in printing order: the n-th scope, from 0, has the number n and lies in an earlier one; and each place has a name
abbrev pub NumbersRise : Type 0
NumbersRise = (t : Parts) → RiseFrom 0 (map (λ s. s.node) (sites t)) × AreNumbered [] (scopes t) × (length (names t) ≡ length (sites t))

-- the nearest var scope of each place is its scope or one further out
abbrev pub VarScopesLieOutside : Type 0
VarScopesLieOutside = (t : Parts) → AllByRecursion (λ s. IsTrue (is_inside s.setting.scope s.setting.var_scope)) (sites t)

-- each place lies in a var scope
abbrev pub IsRooted : Parts → Type 0
IsRooted t = AllByRecursion (λ s. IsFalse (same_scope s.setting.var_scope [])) (sites t)

-- so it does in a tree whose nodes stand where they may
abbrev pub PlacedTreesAreRooted : Type 0
PlacedTreesAreRooted = (t : Tree) → IsTrue (is_placed t) → IsRooted (alone t)
