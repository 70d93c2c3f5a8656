use Rattle.tree_core.proofs.PathTexts as texts
use Rattle.tree_core.proofs.laws.wrapped_programs_read.Goals as goal

pub returns : goal.returns
returns c = texts.wrapped_programs_read
