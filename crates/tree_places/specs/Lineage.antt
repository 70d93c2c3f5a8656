-- The nodes that enclose each place, and the scope of a place in the words of its rule: it is that of the nearest enclosing node which opens a scope around the field in which the place lies, and of those further out. Nothing here is counted on the way, as `Places` does it.
use Rattle.std.specs.Prelude.{ℕ, suc, ◌+◌, Bool, true, false, not, ◌&&◌, nat_lt, List, [], ◌∷◌, ◌++◌, length, filter, if◌then◌else◌}
use Rattle.tree_nodes.specs.Along.{Along, all, each, first_column, other_columns}
use Rattle.tree_nodes.specs.NodeCount.{nodes_in}
use Rattle.tree_nodes.specs.Table.{row, unlisted}
use Rattle.tree_nodes.specs.Tree.{Parts, atom, child, done, many}
use Rattle.tree_nodes.specs.declared.table.Mark.{Mark}
use Rattle.tree_nodes.specs.declared.table.Mark.TheVariants.{Body}
use Rattle.tree_nodes.specs.declared.table.Opens.{Opens}
use Rattle.tree_nodes.specs.declared.table.Opens.TheVariants.{BareBlock, Block, Hoisting, WithBody}
use Rattle.tree_places.specs.Places.{Site, is_place}
use Rattle.tree_places.specs.Scopes.{Scope}

-- an enclosing node: its number in printing order, whether it opens a scope around the field in which what it encloses lies, and whether a `var` may declare there
pub record Ancestor : Type 0 where
  pub node : ℕ
  pub opens : Bool
  pub hoists : Bool

-- from the nearest outwards
abbrev pub Lineage : Type 0
Lineage = List Ancestor

-- a place: its number in printing order among all nodes, and what encloses it
pub record Line : Type 0 where
  pub node : ℕ
  pub lineage : Lineage

-- the block of a function, an arrow or a catch clause is bare
unfoldable pub is_bare : Mark → Bool
is_bare Body = true
is_bare _ = false

-- the table's row says what a node opens: a scope in any case, or none where it is bare
unfoldable pub opens_scope : Opens → (bare : Bool) → Bool
opens_scope Block bare = true
opens_scope BareBlock bare = not bare
opens_scope WithBody bare = true
opens_scope Hoisting bare = true
opens_scope _ bare = false

unfoldable pub opens_var_scope : Opens → Bool
opens_var_scope Hoisting = true
opens_var_scope _ = false

-- the node n, which opens this, around a field inside its scope or outside
unfoldable pub ancestor : ℕ → Opens → (bare inside : Bool) → Ancestor
ancestor n o bare inside = record { node = n; opens = opens_scope o bare && inside; hoists = opens_var_scope o && inside }

-- the lineage of what lies in the scope that a node opens, or outside it
unfoldable pub at_side : (inside : Bool) → (outer inner : Lineage) → Lineage
at_side true outer inner = inner
at_side false outer inner = outer

-- the places of a run of parts with the columns beside it, in printing order: n nodes come before it, and these are the lineages of a part outside the scope that its node opens and inside
unfoldable pub lines : Parts → Along → (outer inner : Lineage) → ℕ → List Line
lines done columns outer inner n = []
lines (atom x more) columns outer inner n = lines more (other_columns columns) outer inner n
lines (many items more) columns outer inner n =
    lines items (all (first_column columns)) outer inner n ++ lines more (other_columns columns) outer inner (nodes_in items + n)
lines (child k s e fields more) columns outer inner n =
    let lineage : Lineage = at_side (first_column columns).inside outer inner in
    let around : Bool → Lineage = λ inside. ancestor n (row k).opens (is_bare (first_column columns).mark) inside ∷ lineage in
    let own : List Line = if is_place (row k).opens then record { node = n; lineage = lineage } ∷ [] else [] in
    own ++ (lines fields (each (row k).columns) (around false) (around true) (suc n) ++ lines more (other_columns columns) outer inner (suc (nodes_in fields) + n))

-- the numbers of the nodes that open a scope
unfoldable pub openers : Parts → Along → ℕ → List ℕ
openers done columns n = []
openers (atom x more) columns n = openers more (other_columns columns) n
openers (many items more) columns n = openers items (all (first_column columns)) n ++ openers more (other_columns columns) (nodes_in items + n)
openers (child k s e fields more) columns n =
    let own : List ℕ = if opens_scope (row k).opens (is_bare (first_column columns).mark) then n ∷ [] else [] in
    own ++ (openers fields (each (row k).columns) (suc n) ++ openers more (other_columns columns) (suc (nodes_in fields) + n))

unfoldable pub lines_of : Parts → List Line
lines_of t = lines t (all unlisted) [] [] 0

unfoldable pub openers_of : Parts → List ℕ
openers_of t = openers t (all unlisted) 0

-- the number of a scope: how many nodes that open one come before its node
unfoldable pub scope_number : List ℕ → ℕ → ℕ
scope_number opening n = length (filter (λ m. nat_lt m n) opening)

-- the scope: the numbers of the scopes of those that open one, from the nearest outwards
unfoldable pub scope_by : List ℕ → Lineage → Scope
scope_by opening [] = []
scope_by opening (a ∷ further) = if a.opens then scope_number opening a.node ∷ scope_by opening further else scope_by opening further

-- the nearest var scope: the same, from the nearest one in which a `var` may declare
unfoldable pub var_scope_by : List ℕ → Lineage → Scope
var_scope_by opening [] = []
var_scope_by opening (a ∷ further) = if a.hoists then scope_number opening a.node ∷ scope_by opening further else var_scope_by opening further

-- what both ways find of a place
pub record Found : Type 0 where
  pub node : ℕ
  pub scope : Scope
  pub var_scope : Scope

unfoldable pub found : Site → Found
found s = record { node = s.node; scope = s.setting.scope; var_scope = s.setting.var_scope }

unfoldable pub found_by : List ℕ → Line → Found
found_by opening l = record { node = l.node; scope = scope_by opening l.lineage; var_scope = var_scope_by opening l.lineage }
