-- What the nodes that enclose a place say of it beside its scope: which class bodies lie around it, in whose parameters or catch pattern it lies, whether its code is strict, and whether it lies in the declaration of an export.
use Rattle.std.specs.Prelude.{ℕ, suc, Bool, true, false, ◌&&◌, ◌||◌, List, [], ◌∷◌, ◌++◌, if◌then◌else◌}
use Rattle.tree_nodes.specs.Along.{Along, all, each, first_column, other_columns}
use Rattle.tree_nodes.specs.Table.{Column, row, unlisted}
use Rattle.tree_nodes.specs.Tree.{Parts, atom, child, done, many}
use Rattle.tree_nodes.specs.declared.kind.Kind.{Kind}
use Rattle.tree_nodes.specs.declared.table.Mark.{Mark}
use Rattle.tree_nodes.specs.declared.table.Mark.TheVariants.{Exported, Head}
use Rattle.tree_nodes.specs.declared.table.Opens.{Opens}
use Rattle.tree_nodes.specs.declared.table.Opens.TheVariants.{ClassMembers}
use Rattle.tree_places.specs.Lineage.{is_bare, opens_scope}
use Rattle.tree_places.specs.Places.{Site, hide, is_place, strict_in}
use Rattle.tree_places.specs.Scopes.{Scope, number_of}

-- how many nodes come before one in printing order, how many of them open a scope, and how many are class bodies
pub record Before : Type 0 where
  pub nodes : ℕ
  pub scopes : ℕ
  pub bodies : ℕ

-- an enclosing node, its fields without what a renaming may change, whether it is the block of a function, an arrow or a catch clause, and its field in which what it encloses lies
pub record Enclosing : Type 0 where
  pub before : Before
  pub kind : Kind
  pub fields : Parts
  pub bare : Bool
  pub column : Column

-- from the nearest outwards
abbrev pub Enclosings : Type 0
Enclosings = List Enclosing

unfoldable pub is_class_body : Opens → Bool
is_class_body ClassMembers = true
is_class_body _ = false

unfoldable pub is_head : Mark → Bool
is_head Head = true
is_head _ = false

unfoldable pub is_exported_field : Mark → Bool
is_exported_field Exported = true
is_exported_field _ = false

-- ---- what they say

-- the scope inside a node, where this is the scope around it
unfoldable pub scope_inside : Enclosing → Scope → Scope
scope_inside a outer = if opens_scope (row a.kind).opens a.bare then a.before.scopes ∷ outer else outer

unfoldable pub scope_within : Enclosings → Scope
scope_within [] = []
scope_within (a ∷ further) = if a.column.inside then scope_inside a (scope_within further) else scope_within further

-- the class bodies, each by its number among all of them
unfoldable pub classes_within : Enclosings → List ℕ
classes_within [] = []
classes_within (a ∷ further) = if a.column.inside && is_class_body (row a.kind).opens then a.before.bodies ∷ classes_within further else classes_within further

-- the scopes of those in whose parameters or catch pattern it lies
unfoldable pub heads_within : Enclosings → List ℕ
heads_within [] = []
heads_within (a ∷ further) = if is_head a.column.mark then number_of (scope_inside a (scope_within further)) ++ heads_within further else heads_within further

-- code is strict as the rule of the nearest node says, where it lies in what that opens, by the code around that
unfoldable pub strict_within : Enclosings → Bool
strict_within [] = false
strict_within (a ∷ further) = if a.column.inside then strict_in (row a.kind).strict (strict_within further) a.fields else strict_within further

unfoldable pub exported_within : Enclosings → Bool
exported_within [] = false
exported_within (a ∷ further) = is_exported_field a.column.mark || exported_within further

-- ---- the enclosing nodes of each place

unfoldable pub past_node : Opens → (bare : Bool) → Before → Before
past_node o bare b = record {
  nodes = suc b.nodes;
  scopes = if opens_scope o bare then suc b.scopes else b.scopes;
  bodies = if is_class_body o then suc b.bodies else b.bodies;
}

-- what comes before the end of a run
unfoldable pub past_run : Parts → Along → Before → Before
past_run done columns b = b
past_run (atom x more) columns b = past_run more (other_columns columns) b
past_run (many items more) columns b = past_run more (other_columns columns) (past_run items (all (first_column columns)) b)
past_run (child k s e fields more) columns b =
    past_run more (other_columns columns) (past_run fields (each (row k).columns) (past_node (row k).opens (is_bare (first_column columns).mark) b))

-- a place: its number among all nodes, and what encloses it
pub record Enclosed : Type 0 where
  pub node : ℕ
  pub enclosings : Enclosings

-- the places of a run of parts with the columns beside it, in printing order; around a part these nodes lie, by its column
unfoldable pub enclosed : Parts → Along → (around : Column → Enclosings) → Before → List Enclosed
enclosed done columns around b = []
enclosed (atom x more) columns around b = enclosed more (other_columns columns) around b
enclosed (many items more) columns around b =
    enclosed items (all (first_column columns)) around b ++ enclosed more (other_columns columns) around (past_run items (all (first_column columns)) b)
enclosed (child k s e fields more) columns around b =
    let outer : Enclosings = around (first_column columns) in
    let bare : Bool = is_bare (first_column columns).mark in
    let inner : Column → Enclosings = λ c. record { before = b; kind = k; fields = hide k fields; bare = bare; column = c } ∷ outer in
    let inside : Before = past_node (row k).opens bare b in
    let own : List Enclosed = if is_place (row k).opens then record { node = b.nodes; enclosings = outer } ∷ [] else [] in
    own ++ (enclosed fields (each (row k).columns) inner inside ++ enclosed more (other_columns columns) around (past_run fields (each (row k).columns) inside))

unfoldable pub enclosed_in : Parts → List Enclosed
enclosed_in t = enclosed t (all unlisted) (λ c. []) (record { nodes = 0; scopes = 0; bodies = 0 })

-- what both ways say of a place
pub record Said : Type 0 where
  pub node : ℕ
  pub classes : List ℕ
  pub heads : List ℕ
  pub strict : Bool
  pub exported : Bool

unfoldable pub said : Site → Said
said s = record { node = s.node; classes = s.setting.classes; heads = s.setting.heads; strict = s.setting.strict; exported = s.setting.exported }

unfoldable pub said_by : Enclosed → Said
said_by e = record {
  node = e.node;
  classes = classes_within e.enclosings;
  heads = heads_within e.enclosings;
  strict = strict_within e.enclosings;
  exported = exported_within e.enclosings;
}
