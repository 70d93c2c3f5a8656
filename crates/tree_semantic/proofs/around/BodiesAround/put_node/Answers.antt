use Rattle.std.specs.Prelude.{slice_get}
use Rattle.syntax_sem.specs.NodeId.{number_of}
use Rattle.tree_semantic.specs.ClassesAround.{found_of}
use Rattle.tree_semantic.specs.Nodes.{nodes_in}
use Rattle.tree_semantic.proofs.FoundInTurn.{node_taken}
use Rattle.tree_semantic.proofs.around.BodiesAround.put_node.Goals as goal

pub returns : goal.returns
returns c =
    node_taken (slice_get (nodes_in c.args.nodes.now) (number_of c.args.id)) c.kind-kind.result (number_of c.parent_id-parent.result) c.index.result c.is_body.result (found_of c.args.self.now) (found_of c.put.new.self) c.kind-kind.ensures
    c.parent_id-parent.ensures c.is_body.ensures c.index.ensures.value c.in_ok-put.ensures
