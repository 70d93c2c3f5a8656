use Rattle.name_rules.proofs.Rivals as rivals
use Rattle.name_rules.proofs.rival_laws.no_rival_uses_fewer.Goals as goal

pub returns : goal.returns
returns c = rivals.no_rival_uses_fewer
