-- The nodes of a tree by ids, as data.
use Rattle.std.specs.Prelude.{ℕ, List, map}
use Rattle.place_list.specs.Nodes.{NestedNode}
use Rattle.scope_rules.specs.Symbols.{own_number}
use Rattle.syntax_sem.specs.NodeId as node_id
use Rattle.syntax_sem.specs.ScopeId as scope_id
use Rattle.tree_nodes.specs.Tree.{Tree}
use Rattle.tree_semantic.specs.declared.nodes.AstNode.{AstNode}
use Rattle.tree_semantic.specs.declared.nodes.AstNodes.{AstNodes}
use Rattle.tree_symbols.specs.ReferenceTables.{or_root}

-- a node, with the number of the node around it, which is its own at the root, and of the scope in which it lies
pub record NodeTold : Type 0 where
  pub tree : Tree
  pub parent : ℕ
  pub scope : ℕ

unfoldable pub node_told : AstNode → NodeTold
node_told n = record { tree = n.node.now; parent = node_id.number_of n.parent; scope = scope_id.number_of n.scope }

-- by the numbers of the nodes
abbrev pub nodes_in : AstNodes → List NodeTold
nodes_in a = map node_told a.nodes.items

-- what is told of a node of a tree. The root lies outside all scopes, and is told to lie in the root's
unfoldable pub told : NestedNode → NodeTold
told n = record { tree = n.tree; parent = n.parent; scope = or_root (own_number n.scope) }
