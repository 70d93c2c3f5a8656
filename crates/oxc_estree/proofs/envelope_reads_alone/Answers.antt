use Rattle.oxc_estree.proofs.EnvelopeReads.{reads_alone}
use Rattle.oxc_estree.proofs.envelope_reads_alone.Goals as goal

pub returns : goal.returns
returns c = reads_alone c.text_reads_alone.ensures c.reads_one_value.ensures
