use Rattle.scope_rules.proofs.Redeclarations as later
use Rattle.scope_rules.proofs.laws.redeclarations_stand_at_places.Goals as goal

pub returns : goal.returns
returns g c = later.redeclarations_stand_at_places _
