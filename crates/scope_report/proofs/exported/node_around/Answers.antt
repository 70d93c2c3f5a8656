use Rattle.std.specs.Prelude.{List, option_copied, option_map, slice_get}
use Rattle.std.proofs.Common.{ap, sym, ◌∙◌}
use Rattle.place_list.specs.Nodes.{NestedNode}
use Rattle.place_list.specs.Tables.{nested_node_of}
use Rattle.place_list.specs.declared.tables.NodeEntry.{NodeEntry}
use Rattle.scope_report.proofs.NodesAround.{nested_at}
use Rattle.scope_report.specs.Exports.{node_around}
use Rattle.scope_report.proofs.exported.node_around.Goals as goal

pub returns-in-Some : goal.returns-in-Some
unfolding node_around nested_node_of
returns-in-Some c =
    let n = c.args.node in
    sym (ap (option_map (λ (m : NestedNode). m.parent)) (nested_at c.args.nodes.now n _ (ap (λ (es : List NodeEntry). slice_get es n) (sym c.as_slice.ensures.value) ∙ sym c.entry_at.ensures ∙ ap option_copied c.in-Some.is)))

pub returns-in-None : goal.returns-in-None
unfolding node_around
returns-in-None c =
    let n = c.args.node in
    sym (ap (option_map (λ (m : NestedNode). m.parent)) (nested_at c.args.nodes.now n _ (ap (λ (es : List NodeEntry). slice_get es n) (sym c.as_slice.ensures.value) ∙ sym c.entry_at.ensures ∙ ap option_copied c.in-None.is)))
