use Rattle.tree_core.proofs.PathTexts as texts
use Rattle.tree_core.proofs.laws.programs_are_small.Goals as goal

pub returns : goal.returns
returns c = texts.programs_are_small
