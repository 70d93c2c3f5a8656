use Rattle.tree_core.proofs.ObjectMembers.{are_distinct-ordered}
use Rattle.name_map.proofs.read.has_only.Goals as goal

pub returns-then-not-is_one_of-clause-distinct : goal.returns-then-not-is_one_of-clause-distinct
returns-then-not-is_one_of-clause-distinct c = are_distinct-ordered c.args.members.now.entries c.iter-key-items.ensures.ordered

pub returns-clause-distinct : goal.returns-clause-distinct
returns-clause-distinct c = are_distinct-ordered c.args.members.now.entries c.iter-key-items.ensures.ordered
