use Rattle.name_rules.proofs.LiveTogether as together
use Rattle.name_rules.proofs.laws.live_together.Goals as goal

pub returns : goal.returns
returns c = together.live_together
