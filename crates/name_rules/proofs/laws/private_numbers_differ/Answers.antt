use Rattle.name_rules.proofs.PrivateChains as chains
use Rattle.name_rules.proofs.laws.private_numbers_differ.Goals as goal
use Rattle.list_laws.proofs.Members.{in_from_Contains}
use Rattle.tree_places.specs.Places.{places}

pub returns : goal.returns
returns _ = λ t p among c d outside_c outside_d h k i j a b e. chains.private_numbers_differ t p (in_from_Contains (places t) p among) c d outside_c outside_d h k i j a b e
