use Rattle.std.specs.Prelude.{◌≡◌, length, map}
use Rattle.std.proofs.Common.{ap, arith, ◌∙◌}
use Rattle.place_list.specs.TableViews.{nested_node_in}
use Rattle.place_list.specs.declared.tables.NodeEntry.{NodeEntry}
use Rattle.tree_semantic.specs.Nodes.{node_told, told}
use Rattle.tree_semantic.proofs.NodesTold.{all_told}
use Rattle.std.proofs.lemmas.List.{length-map}
use Rattle.tree_semantic.proofs.nodes.AstNodes.build.Goals as goal

pub returns-clause-nodes : goal.returns-clause-nodes
returns-clause-nodes c =
    c.in_ok-nodes.ensures ∙ ap (map (λ (e : NodeEntry). told (nested_node_in c.args.list.now e))) c.as_slice-entries.ensures.value ∙ all_told c.args.list.now

pub returns-clause-few : goal.returns-clause-few
returns-clause-few c =
    let same : length (map node_told c.in_ok-nodes.nodes.items) ≡ length c.as_slice-entries.result.now =
    ap length c.in_ok-nodes.ensures ∙ length-map c.as_slice-entries.result.now (λ (e : NodeEntry). told (nested_node_in c.args.list.now e)) in
    omega (arith, same)
