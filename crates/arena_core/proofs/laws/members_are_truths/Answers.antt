use Rattle.arena_core.proofs.Listed.{members-Contains}
use Rattle.arena_core.proofs.laws.members_are_truths.Goals as goal

pub returns : goal.returns
returns c = members-Contains
