use Rattle.std.proofs.Common.{arith, ◌∙◌}
use Rattle.tree_semantic.proofs.NodesTold.{scope_told}
use Rattle.tree_semantic.proofs.nodes.numbered_scope.Goals as goal

pub returns : goal.returns
returns c = c.in_ok-id.ensures ∙ scope_told c.args.list.now c.args.scope (omega arith)
