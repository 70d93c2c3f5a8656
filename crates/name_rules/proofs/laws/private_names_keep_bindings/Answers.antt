use Rattle.name_rules.proofs.PrivateChains as chains
use Rattle.name_rules.proofs.laws.private_names_keep_bindings.Goals as goal
use Rattle.list_laws.proofs.Members.{contains_from_in}
use Rattle.tree_places.specs.Places.{places}

pub returns : goal.returns
returns _ = λ t new sound so. chains.private_names_keep_bindings t new (λ p i. so p (contains_from_in (places t) p i)) sound
