use Rattle.std.proofs.Common.{ap, ◌∙◌}
use Rattle.place_list.specs.TableViews.{nested_node_in}
use Rattle.place_list.specs.declared.tables.NodeEntry.{NodeEntry}
use Rattle.tree_semantic.specs.Nodes.{node_told, told}
use Rattle.tree_symbols.proofs.Mapped.{views_more}
use Rattle.tree_semantic.proofs.nodes.list_nodes.Goals as goal

pub loop-entry-preserved : goal.loop-entry-preserved
loop-entry-preserved c =
    views_more node_told (λ (e : NodeEntry). told (nested_node_in c.args.list.now e)) c.args.entries.now c.loop-entry.entry-index c.entry-item.result c.loop-entry-test.true c.loop-entry.nodes.items _ c.push.new.self.items c.loop-entry.invariant
    (c.in_ok-node_at.ensures ∙ ap (λ (e : NodeEntry). told (nested_node_in c.args.list.now e)) c.entry-item.is) c.in_ok-push.ensures.items
