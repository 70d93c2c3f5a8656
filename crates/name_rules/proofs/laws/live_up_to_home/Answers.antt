use Rattle.name_rules.proofs.LiveTogether as together
use Rattle.name_rules.proofs.laws.live_up_to_home.Goals as goal

pub returns : goal.returns
returns c = together.live_up_to_home
