use Rattle.std.proofs.Common.{arith}
use Rattle.tree_semantic.proofs.private_names.PrivateNames.len.Goals as goal

pub returns : goal.returns
returns c = omega (arith, c.len.ensures)
