use Rattle.tree_places.proofs.Lineages as lineages
use Rattle.tree_places.proofs.laws.scopes_are_nearest.Goals as goal

pub returns : goal.returns
returns c = lineages.scopes_are_nearest
