use Rattle.std.specs.Prelude.{◌≡◌, length}
use Rattle.std.proofs.Common.{arith, refl}
use Rattle.std.proofs.lemmas.List.{length-map}
use Rattle.syntax_sem.specs.NodeId.{number_of}
use Rattle.tree_semantic.specs.Nodes.{NodeTold, node_told, nodes_in}
use Rattle.tree_semantic.proofs.NodesTold.{node_read}
use Rattle.tree_semantic.proofs.nodes.AstNodes.node.Goals as goal

pub index-requires : goal.index-requires
index-requires c =
    let many : length (nodes_in c.args.self.now) ≡ length c.args.self.now.nodes.items = length-map c.args.self.now.nodes.items node_told in
    omega (arith, many, c.index-k.ensures.value, c.requires)

pub returns : goal.returns
unfolding node_told
returns c =
    let many : length (nodes_in c.args.self.now) ≡ length c.args.self.now.nodes.items = length-map c.args.self.now.nodes.items node_told in
    node_read c.args.self.now (λ (n : NodeTold). c.index.result.now.node.now ≡ n.tree) c.index-k.result (number_of c.args.id) c.index.result.now c.index-k.ensures.value (omega (arith, many, c.index-k.ensures.value, c.requires)) c.index.ensures
    refl
