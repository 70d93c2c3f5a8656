use Rattle.std.specs.Prelude.{Bool, false, List, None, Option, Some, option_copied, slice_get}
use Rattle.std.proofs.Common.{ap, sym, ◌∙◌}
use Rattle.place_list.specs.Nodes.{NestedNode}
use Rattle.place_list.specs.Tables.{nested_node_of}
use Rattle.place_list.specs.declared.tables.NodeEntry.{NodeEntry}
use Rattle.scope_report.proofs.NodesAround.{nested_at}
use Rattle.scope_report.specs.Exports.{exports_by_default, is_default_export}
use Rattle.scope_report.proofs.exported.is_default_export_at.Goals as goal

told : Option NestedNode → Bool
told o = elim o [ None ↦ false | Some m ↦ is_default_export m.tree.kind ]

pub returns-in-Some : goal.returns-in-Some
unfolding exports_by_default nested_node_of told
returns-in-Some c =
    let n = c.args.node in
    c.is_default_export.ensures
    ∙ sym (ap told (nested_at c.args.nodes.now n _ (ap (λ (es : List NodeEntry). slice_get es n) (sym c.as_slice.ensures.value) ∙ sym c.entry_at.ensures ∙ ap option_copied c.in-Some.is)))

pub returns-in-None : goal.returns-in-None
unfolding exports_by_default told
returns-in-None c =
    let n = c.args.node in
    sym (ap told (nested_at c.args.nodes.now n _ (ap (λ (es : List NodeEntry). slice_get es n) (sym c.as_slice.ensures.value) ∙ sym c.entry_at.ensures ∙ ap option_copied c.in-None.is)))
