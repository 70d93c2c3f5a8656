use Rattle.tree_core.proofs.ObjectMembers.{are_distinct-ordered}
use Rattle.tree_core.proofs.read.only_known.Goals as goal

pub returns-then-not-is_blank-clause-distinct : goal.returns-then-not-is_blank-clause-distinct
returns-then-not-is_blank-clause-distinct c = are_distinct-ordered c.args.members.now.entries c.iter-key-items.ensures.ordered

pub returns-clause-distinct : goal.returns-clause-distinct
returns-clause-distinct c = are_distinct-ordered c.args.members.now.entries c.iter-key-items.ensures.ordered
