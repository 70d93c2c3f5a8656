-- The walk of a tree in tables: as the walk that gives its places, with numbers in place of scopes and of lists.
use Rattle.std.specs.Prelude.{ℕ, suc, Bool, true, false, List, [], ◌∷◌, ◌++◌, length, Option, Some, None, if◌then◌else◌}
use Rattle.place_list.specs.ScopeKinds.{scope_kind, value_scope}
use Rattle.place_list.specs.Tables.{Entry, Lists, NodeView, head_lists, lineages}
use Rattle.place_list.specs.declared.setting.ScopeKind.{ScopeKind}
use Rattle.place_list.specs.declared.setting.ScopeKind.TheVariants as scope
use Rattle.place_list.specs.declared.setting.Setting.{Setting}
use Rattle.place_list.specs.declared.setting.Value.{Value}
use Rattle.place_list.specs.declared.setting.Value.TheVariants.{NoValue, OtherValue, AnonymousFunction, AnonymousClass}
use Rattle.place_list.specs.declared.tables.HeadEntry.{HeadEntry}
use Rattle.place_list.specs.declared.tables.ScopeEntry.{ScopeEntry}
use Rattle.tree_nodes.specs.Along.{Along, all, each, first_column, other_columns}
use Rattle.tree_nodes.specs.Roles.{role_at}
use Rattle.tree_nodes.specs.Table.{Column, row, unlisted}
use Rattle.tree_nodes.specs.Tree.{Parts, Text, Tree, atom, child, done, many, part, text_of}
use Rattle.tree_nodes.specs.declared.kind.Kind.{Kind}
use Rattle.tree_nodes.specs.declared.table.Mark.{Mark}
use Rattle.tree_nodes.specs.declared.table.Mark.TheVariants.{Body, Declarator, Exported, Head, Rest, Usual, Valued}
use Rattle.tree_nodes.specs.declared.table.Mode.{Mode}
use Rattle.tree_nodes.specs.declared.table.Mode.TheVariants.{Leaves, Same}
use Rattle.tree_nodes.specs.declared.table.Opens.{Opens}
use Rattle.tree_nodes.specs.declared.table.Opens.TheVariants.{BareBlock, Block, ClassMembers, Hoisting, NameHere, Nothing, PrivateNameHere, WithBody}
use Rattle.tree_nodes.specs.declared.table.Role.TheVariants.{Plain}
use Rattle.tree_nodes.specs.declared.table.Strict.{Strict}
use Rattle.tree_places.specs.Lineage.{opens_scope}
use Rattle.tree_places.specs.Places as places
use Rattle.tree_places.specs.Places.{naming_value, strict_in}

-- what the walk has met: how many nodes, and the tables; whether the nodes are to be listed too
pub record State : Type 0 where
  pub nodes : ℕ
  pub scopes : List (Option ℕ)
  pub var_scopes : List (Option ℕ)
  pub class_bodies : List (Option ℕ)
  pub heads : List HeadEntry
  pub places : List Entry
  pub withs : List (Option ℕ)
  pub scope_entries : List ScopeEntry
  pub lists_nodes : Bool
  pub node_entries : List NodeView

unfoldable pub nothing_met : Bool → State
nothing_met b = record { nodes = 0; scopes = []; var_scopes = []; class_bodies = []; heads = []; places = []; withs = []; scope_entries = []; lists_nodes = b; node_entries = [] }

-- what the numbers in its tables stand for
unfoldable pub lists_of : State → Lists
lists_of s = record { scopes = lineages s.scopes; class_bodies = lineages s.class_bodies; heads = head_lists s.heads; var_scopes = s.var_scopes }

-- what holds around a node, and what holds in the scope that it opens; and which scope a function that is its value opens
pub record Around : Type 0 where
  pub outside : Setting
  pub inside : Setting
  pub fields : Parts
  pub number : ℕ
  pub value_scope : ScopeKind

unfoldable pub side : Bool → Around → Setting
side true a = a.inside
side false a = a.outside

unfoldable pub value_from : places.Value → Value
value_from places.no_value = NoValue
value_from places.other_value = OtherValue
value_from places.anonymous_function = AnonymousFunction
value_from places.anonymous_class = AnonymousClass

-- the head in a field that is one, if the next head has the number n: none is put outside all scopes
unfoldable pub next_head : Option ℕ → ℕ → Option ℕ → Option ℕ
next_head None n outer = outer
next_head (Some k) n outer = Some n

unfoldable pub put_entry : Option ℕ → Option ℕ → State → State
put_entry None outer s = s
put_entry (Some k) outer s = record s { heads = s.heads ++ record { scope = k; parent = outer } ∷ [] }

-- a field with this mark puts a head, in a node that opens this scope
unfoldable pub put_head : Mark → Option ℕ → Option ℕ → State → State
put_head Head opened outer s = put_entry opened outer s
put_head _ opened outer s = s

unfoldable pub with_mark : Mark → Parts → ℕ → Option ℕ → ℕ → Setting → Setting
with_mark Usual fields n opened next e = e
with_mark Body fields n opened next e = record e { bare = true }
with_mark Head fields n opened next e = record e { head = next_head opened next e.head }
with_mark Exported fields n opened next e = record e { exported = true }
with_mark (Valued i) fields n opened next e = record e { value = value_from (naming_value (part fields i)) }
with_mark (Declarator i) fields n opened next e = record e { value = value_from (naming_value (part fields i)); declarator = Some n; in_rest = false }
with_mark Rest fields n opened next e = record e { in_rest = true }

unfoldable pub pattern_on : Mode → Option ℕ → Option ℕ
pattern_on Same declarator = declarator
pattern_on Leaves declarator = declarator
pattern_on _ declarator = None

-- what holds in a field, where e holds on its side of the node
unfoldable pub field_setting : Column → Around → ℕ → Setting → Setting
field_setting f a next e =
    with_mark f.mark a.fields a.number a.inside.scope next
    (record e { role = role_at f.mode a.outside.role a.fields; bare = false; value = NoValue; declarator = pattern_on f.mode e.declarator })

unfoldable pub at_field : Column → Around → ℕ → Setting
at_field f a next = field_setting f a next (side f.inside a)

unfoldable pub after_field : Column → Around → State → State
after_field f a s = put_head f.mark a.inside.scope (side f.inside a).head s

-- what holds inside a node where e holds, if n scopes and c class bodies come before it
unfoldable pub opened : Opens → ℕ → ℕ → Setting → Setting
opened Nothing n c e = e
opened Block n c e = record e { scope = Some n }
opened BareBlock n c e = if e.bare then e else record e { scope = Some n }
opened WithBody n c e = record e { scope = Some n }
opened Hoisting n c e = record e { scope = Some n; var_scope = Some n }
opened ClassMembers n c e = record e { class_body = Some c }
opened NameHere n c e = e
opened PrivateNameHere n c e = e

unfoldable pub inside_of : Opens → Strict → Parts → Setting → State → Setting
inside_of o t fields e s = opened o (length s.scopes) (length s.class_bodies) (record e { strict = strict_in t e.strict fields })

unfoldable pub enter : Kind → Parts → Setting → State → Around
enter k fields e s = record { outside = e; inside = inside_of (row k).opens (row k).strict fields e s; fields = fields; number = s.nodes; value_scope = value_scope k fields }

-- a node that stands in this field is listed, where nodes are
unfoldable pub listed_node : Around → Setting → Tree → State → State
listed_node a e t s = record s { node_entries = if s.lists_nodes then s.node_entries ++ record { tree = t; parent = a.number; scope = e.scope } ∷ [] else s.node_entries }

-- the scope of a node of this kind in this field is put, where it opens one
unfoldable pub put_scope : Opens → ScopeKind → Setting → Setting → State → State
put_scope o k e inner s = record s {
  scope_entries = if opens_scope o e.bare then s.scope_entries ++ record { parent = e.scope; var_scope = inner.var_scope; node = s.nodes; kind = k; strict = inner.strict } ∷ [] else s.scope_entries;
}

-- a node is met that opens this and starts at b, where e holds, with this var scope inside and this text in front
unfoldable pub met : Opens → ℕ → Setting → Option ℕ → Text → State → State
met Nothing b e v x s = record s { nodes = suc s.nodes }
met Block b e v x s = record s { nodes = suc s.nodes; scopes = s.scopes ++ e.scope ∷ []; var_scopes = s.var_scopes ++ v ∷ [] }
met BareBlock b e v x s = record s { nodes = suc s.nodes; scopes = if e.bare then s.scopes else s.scopes ++ e.scope ∷ []; var_scopes = if e.bare then s.var_scopes else s.var_scopes ++ v ∷ [] }
met WithBody b e v x s = record s { nodes = suc s.nodes; scopes = s.scopes ++ e.scope ∷ []; var_scopes = s.var_scopes ++ v ∷ []; withs = s.withs ++ e.scope ∷ [] }
met Hoisting b e v x s = record s { nodes = suc s.nodes; scopes = s.scopes ++ e.scope ∷ []; var_scopes = s.var_scopes ++ v ∷ [] }
met ClassMembers b e v x s = record s { nodes = suc s.nodes; class_bodies = s.class_bodies ++ e.class_body ∷ [] }
met NameHere b e v x s = record s { nodes = suc s.nodes; places = s.places ++ record { node = s.nodes; start = b; private = false; setting = e; name = x } ∷ [] }
met PrivateNameHere b e v x s = record s { nodes = suc s.nodes; places = s.places ++ record { node = s.nodes; start = b; private = true; setting = e; name = x } ∷ [] }

-- over a run of parts, with the columns beside it
unfoldable pub walk : Parts → Along → Around → State → State
walk done columns a s = s
walk (atom x more) columns a s = walk more (other_columns columns) a s
walk (many items more) columns a s = walk more (other_columns columns) a (walk items (all (first_column columns)) a s)
walk (child k b e fields more) columns a s =
    let column : Column = first_column columns in
    let here : Setting = at_field column a (length s.heads) in
    let now : State = after_field column a s in
    let around : Around = enter k fields here now in
    let noted : State = put_scope (row k).opens (scope_kind k column a.value_scope) here around.inside (listed_node a here (record { kind = k; start = b; stop = e; fields = fields }) now) in
    walk more (other_columns columns) a (walk fields (each (row k).columns) around (met (row k).opens b here around.inside.var_scope (text_of fields) noted))

unfoldable pub nowhere : Setting
nowhere = record { role = Plain; scope = None; var_scope = None; class_body = None; head = None; strict = false; exported = false; bare = false; value = NoValue; declarator = None; in_rest = false }

unfoldable pub before_all : Around
before_all = record { outside = nowhere; inside = nowhere; fields = done; number = 0; value_scope = scope.Function }

-- all that the walk of a tree meets, with its nodes or without
unfoldable pub tables_of : Bool → Parts → State
tables_of b t = walk t (all unlisted) before_all (nothing_met b)
