-- What the numbers in the tables of a tree stand for: a scope's or a class body's number for the list of numbers from it outwards, a head's for the list of the scopes in whose heads it lies.
use Rattle.std.specs.Prelude.{ℕ, Bool, List, [], ◌∷◌, ◌++◌, length, slice_get, Option, Some, None}
use Rattle.place_list.specs.Nodes.{NestedNode, ScopeNode}
use Rattle.place_list.specs.declared.setting.Setting.{Setting}
use Rattle.place_list.specs.declared.setting.Value.{Value}
use Rattle.place_list.specs.declared.setting.Value.TheVariants.{NoValue, OtherValue, AnonymousFunction, AnonymousClass}
use Rattle.place_list.specs.declared.tables.HeadEntry.{HeadEntry}
use Rattle.place_list.specs.declared.tables.ScopeEntry.{ScopeEntry}
use Rattle.tree_nodes.specs.Tree.{Text, Tree}
use Rattle.tree_places.specs.Places as places
use Rattle.tree_places.specs.Places.{Place, Site}
use Rattle.tree_places.specs.Scopes.{Scope}

unfoldable pub or_none_listed : Option (List ℕ) → List ℕ
or_none_listed None = []
or_none_listed (Some ns) = ns

-- the list that a number stands for, and the empty one for no number
unfoldable pub list_at : List (List ℕ) → Option ℕ → List ℕ
list_at lists None = []
list_at lists (Some n) = or_none_listed (slice_get lists n)

-- of a table of the numbers outside: the n-th list is n and then the list of the number outside it, which comes before
unfoldable pub lineages_from : List (List ℕ) → List (Option ℕ) → List (List ℕ)
lineages_from before [] = before
lineages_from before (o ∷ os) = lineages_from (before ++ (length before ∷ list_at before o) ∷ []) os

unfoldable pub lineages : List (Option ℕ) → List (List ℕ)
lineages os = lineages_from [] os

-- of a table of heads: the n-th list is its scope and then the list of the head outside it, which comes before
unfoldable pub heads_from : List (List ℕ) → List HeadEntry → List (List ℕ)
heads_from before [] = before
heads_from before (h ∷ hs) = heads_from (before ++ (h.scope ∷ list_at before h.parent) ∷ []) hs

unfoldable pub head_lists : List HeadEntry → List (List ℕ)
head_lists hs = heads_from [] hs

-- what the numbers of scopes, class bodies and heads stand for, and the number of each scope's var scope
pub record Lists : Type 0 where
  pub scopes : List Scope
  pub class_bodies : List (List ℕ)
  pub heads : List (List ℕ)
  pub var_scopes : List (Option ℕ)

unfoldable pub value_of : Value → places.Value
value_of NoValue = places.no_value
value_of OtherValue = places.other_value
value_of AnonymousFunction = places.anonymous_function
value_of AnonymousClass = places.anonymous_class

unfoldable pub listed : Option ℕ → List ℕ
listed None = []
listed (Some n) = n ∷ []

unfoldable pub setting_of : Lists → Setting → places.Setting
setting_of d e = record {
  role = e.role;
  scope = list_at d.scopes e.scope;
  var_scope = list_at d.scopes e.var_scope;
  classes = list_at d.class_bodies e.class_body;
  heads = list_at d.heads e.head;
  strict = e.strict;
  exported = e.exported;
  bare = e.bare;
  value = value_of e.value;
  pattern = listed e.declarator;
  in_rest = e.in_rest;
}

-- a place, with its setting in numbers
pub record Entry : Type 0 where
  pub node : ℕ
  pub start : ℕ
  pub private : Bool
  pub setting : Setting
  pub name : Text

unfoldable pub site_of : Lists → Entry → Site
site_of d e = record { node = e.node; start = e.start; private = e.private; setting = setting_of d e.setting }

unfoldable pub place_of : Lists → Entry → Place
place_of d e = record { site = site_of d e; name = e.name }

-- ---- scopes and nodes

unfoldable pub scope_node_of : Lists → ScopeEntry → ScopeNode
scope_node_of d e = record { var_scope = list_at d.scopes e.var_scope; node = e.node; kind = e.kind; strict = e.strict }

-- a node, with the number of the node around it and of the scope in which it stands
pub record NodeView : Type 0 where
  pub tree : Tree
  pub parent : ℕ
  pub scope : Option ℕ

unfoldable pub nested_node_of : Lists → NodeView → NestedNode
nested_node_of d e = record { tree = e.tree; parent = e.parent; scope = list_at d.scopes e.scope }
