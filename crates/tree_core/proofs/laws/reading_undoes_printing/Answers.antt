use Rattle.tree_core.proofs.ReadsBack as back
use Rattle.tree_core.proofs.laws.reading_undoes_printing.Goals as goal

pub returns : goal.returns
returns c = back.reading_undoes_printing
