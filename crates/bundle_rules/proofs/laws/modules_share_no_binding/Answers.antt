use Rattle.bundle_rules.proofs.NodesLie as nodes
use Rattle.bundle_rules.proofs.laws.modules_share_no_binding.Goals as goal

pub returns : goal.returns
returns c = nodes.modules_share_no_binding
