use Rattle.std.proofs.Common.{refl}
use Rattle.tree_semantic.proofs.NodesTold.{node_is}
use Rattle.tree_semantic.proofs.nodes.node_at.Goals as goal

pub returns : goal.returns
returns c = node_is c.args.list.now c.args.entry.now _ refl c.in_ok-parent.ensures c.in_ok-scope.ensures
