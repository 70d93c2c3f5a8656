use Rattle.arena_core.proofs.Listed.{members-rise}
use Rattle.arena_core.proofs.laws.members_rise.Goals as goal

pub returns : goal.returns
returns c = members-rise
