use Rattle.tree_places.proofs.TreesRooted as rooted
use Rattle.tree_places.proofs.laws.placed_trees_are_rooted.Goals as goal

pub returns : goal.returns
returns c = rooted.placed_trees_are_rooted
