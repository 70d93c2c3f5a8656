use Rattle.tree_patterns.proofs.BoundByKind.{by_kind}
use Rattle.tree_patterns.proofs.laws.bound_names_by_kind.Goals as goal

pub returns : goal.returns
returns c = by_kind
