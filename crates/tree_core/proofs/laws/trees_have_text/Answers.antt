use Rattle.tree_core.proofs.ReadsBack as back
use Rattle.tree_core.proofs.laws.trees_have_text.Goals as goal

pub returns : goal.returns
returns c = back.tree_has_text
