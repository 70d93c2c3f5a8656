use Rattle.std.specs.Prelude.{◌≡◌, length, map}
use Rattle.std.proofs.Common.{ap, arith, ◌∙◌}
use Rattle.std.proofs.lemmas.List.{length-map}
use Rattle.name_rules.specs.Options.{renames_root}
use Rattle.oxc_mangler.proofs.NodesCounted.{nodes_counted, root_is}
use Rattle.place_list.specs.Nodes.{nested_nodes}
use Rattle.tree_nodes.specs.NodeCount.{nodes_in}
use Rattle.tree_nodes.specs.Tree.{Tree, alone}
use Rattle.tree_semantic.specs.Nodes as nodes
use Rattle.tree_semantic.specs.Nodes.{told}
use Rattle.oxc_mangler.proofs.asked.renames_first.Goals as goal

pub returns-then-len-eq0 : goal.returns-then-len-eq0
returns-then-len-eq0 c = λ t e. absurd (
    let a : length (nodes.nodes_in c.args.nodes.now) ≡ length (map told (nested_nodes (alone t))) = ap length e in
    let b : length (map told (nested_nodes (alone t))) ≡ length (nested_nodes (alone t)) = length-map (nested_nodes (alone t)) told in
    let d : length (nested_nodes (alone t)) ≡ nodes_in (alone t) = nodes_counted (alone t) in
    omega (arith, a, b, d, c.len.ensures, c.if-len-eq0.true))

pub returns : goal.returns
returns c = λ t e. c.renames_root.ensures ∙ ap (λ (r : Tree). renames_root c.args.asked (alone r)) (root_is t (nodes.nodes_in c.args.nodes.now) e _ c.from_usize.ensures c.node.result.now c.node.ensures)
