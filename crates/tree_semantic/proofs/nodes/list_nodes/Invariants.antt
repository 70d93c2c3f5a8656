use Rattle.std.proofs.Common.{◌≡◌, map, take}
use Rattle.place_list.specs.TableViews.{nested_node_in}
use Rattle.place_list.specs.declared.tables.NodeEntry.{NodeEntry}
use Rattle.tree_semantic.specs.Nodes.{node_told, told}
use Rattle.tree_semantic.proofs.nodes.list_nodes.Given as goal

abbrev pub invariant-loop-entry : goal.invariant-loop-entry
invariant-loop-entry l = map node_told l.nodes.items ≡ map (λ (e : NodeEntry). told (nested_node_in l.list e)) (take l.entry-index l.entries)
