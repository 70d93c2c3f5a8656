use Rattle.bundle_rules.proofs.JoinedSites as places
use Rattle.bundle_rules.proofs.laws.joining_moves_places.Goals as goal

pub returns : goal.returns
returns c = places.joining_moves_places
