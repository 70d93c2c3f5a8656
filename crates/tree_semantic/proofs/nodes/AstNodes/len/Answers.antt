use Rattle.std.specs.Prelude.{◌≡◌, length}
use Rattle.std.proofs.Common.{arith, sym, ◌∙◌}
use Rattle.std.proofs.lemmas.List.{length-map}
use Rattle.tree_semantic.specs.Nodes.{node_told}
use Rattle.tree_semantic.proofs.nodes.AstNodes.len.Goals as goal

pub returns : goal.returns
returns c =
    let many : c.len.result ≡ length c.args.self.now.nodes.items = omega (arith, c.len.ensures) in
    many ∙ sym (length-map c.args.self.now.nodes.items node_told)
