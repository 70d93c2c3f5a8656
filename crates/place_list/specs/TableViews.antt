-- The tables in the code, as data, and what their numbers stand for.
use Rattle.std.specs.Prelude.{ℕ, List, Option, map}
use Rattle.place_list.specs.Tables as tables
use Rattle.place_list.specs.Tables.{head_lists, lineages, list_at}
use Rattle.place_list.specs.TableWalk as spec
use Rattle.place_list.specs.Nodes.{NestedNode, ScopeNode}
use Rattle.place_list.specs.declared.fields.Around.{Around}
use Rattle.place_list.specs.declared.tables.NodeEntry.{NodeEntry}
use Rattle.place_list.specs.declared.tables.PlaceEntry.{PlaceEntry}
use Rattle.place_list.specs.declared.tables.PlaceList.{PlaceList}
use Rattle.place_list.specs.declared.tables.ScopeEntry.{ScopeEntry}
use Rattle.tree_places.specs.Places.{Place}
use Rattle.tree_places.specs.Scopes.{Scope}

abbrev pub entry_view : PlaceEntry → tables.Entry
entry_view e = record { node = e.node; start = e.start; private = e.private; setting = e.setting; name = e.name.now }

abbrev pub node_view : NodeEntry → tables.NodeView
node_view e = record { tree = e.node.now; parent = e.parent; scope = e.scope }

-- the numbers outside the scopes, the class bodies and the heads
abbrev pub scope_parents : PlaceList → List (Option ℕ)
scope_parents l = map (λ e. e.parent) l.scopes.items

abbrev pub class_parents : PlaceList → List (Option ℕ)
class_parents l = map (λ e. e.parent) l.class_bodies.items

abbrev pub head_parents : PlaceList → List (Option ℕ)
head_parents l = map (λ e. e.parent) l.heads.items

-- the var scopes of the scopes
abbrev pub var_scopes : PlaceList → List (Option ℕ)
var_scopes l = map (λ e. e.var_scope) l.scopes.items

-- what the numbers in its tables stand for
abbrev pub lists_in : PlaceList → tables.Lists
lists_in l = record { scopes = lineages (scope_parents l); class_bodies = lineages (class_parents l); heads = head_lists l.heads.items; var_scopes = var_scopes l }

-- the scope, the class bodies and the heads that a number stands for: all from it outwards
abbrev pub scope_at : PlaceList → Option ℕ → Scope
scope_at l o = list_at (lists_in l).scopes o

abbrev pub classes_at : PlaceList → Option ℕ → List ℕ
classes_at l o = list_at (lists_in l).class_bodies o

abbrev pub heads_at : PlaceList → Option ℕ → List ℕ
heads_at l o = list_at (lists_in l).heads o

-- the place that an entry stands for
abbrev pub place_in : PlaceList → PlaceEntry → Place
place_in l e = tables.place_of (lists_in l) (entry_view e)

-- the places, the scopes and the scopes around the WithStatements that a list stands for
abbrev pub places_in : PlaceList → List Place
places_in l = map (tables.place_of (lists_in l)) (map entry_view l.places.items)

abbrev pub scopes_in : PlaceList → List Scope
scopes_in l = (lists_in l).scopes

-- what is told of the scopes
abbrev pub scope_node_in : PlaceList → ScopeEntry → ScopeNode
scope_node_in l e = tables.scope_node_of (lists_in l) e

abbrev pub scope_nodes_in : PlaceList → List ScopeNode
scope_nodes_in l = map (scope_node_in l) l.scopes.items

-- the nodes
abbrev pub nested_node_in : PlaceList → NodeEntry → NestedNode
nested_node_in l e = tables.nested_node_of (lists_in l) (node_view e)

abbrev pub nested_nodes_in : PlaceList → List NestedNode
nested_nodes_in l = map (tables.nested_node_of (lists_in l)) (map node_view l.node_entries.items)

abbrev pub withs_in : PlaceList → List Scope
withs_in l = map (list_at (scopes_in l)) l.withs.items

abbrev pub list_view : PlaceList → spec.State
list_view l = record { nodes = l.nodes; scopes = scope_parents l; var_scopes = var_scopes l; class_bodies = class_parents l; heads = l.heads.items; places = map entry_view l.places.items; withs = l.withs.items; scope_entries = l.scopes.items; lists_nodes = l.lists_nodes; node_entries = map node_view l.node_entries.items }

abbrev pub around_view : Around → spec.Around
around_view a = record { outside = a.outside; inside = a.inside; fields = a.fields.now; number = a.number; value_scope = a.value_scope }
