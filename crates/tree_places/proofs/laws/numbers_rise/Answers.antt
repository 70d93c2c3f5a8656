use Rattle.tree_places.proofs.Rising as rising
use Rattle.tree_places.proofs.laws.numbers_rise.Goals as goal

pub returns : goal.returns
returns c = rising.numbers_rise
