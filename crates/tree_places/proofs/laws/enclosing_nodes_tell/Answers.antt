use Rattle.tree_places.proofs.Enclosings as enclosings
use Rattle.tree_places.proofs.laws.enclosing_nodes_tell.Goals as goal

pub returns : goal.returns
returns c = enclosings.enclosing_nodes_tell
