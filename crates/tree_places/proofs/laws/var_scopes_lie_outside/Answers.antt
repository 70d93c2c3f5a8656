use Rattle.tree_places.proofs.Homed as homed
use Rattle.tree_places.proofs.laws.var_scopes_lie_outside.Goals as goal

pub returns : goal.returns
returns c = homed.var_scopes_lie_outside
