use Rattle.tree_core.proofs.ReadsBack as back
use Rattle.tree_core.proofs.laws.printed_text_reads.Goals as goal

pub returns : goal.returns
returns c = back.printed_text_reads
