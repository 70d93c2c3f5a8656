use Rattle.json_text.proofs.Texts as texts
use Rattle.json_text.proofs.text_reads_alone.Goals as goal

pub returns : goal.returns
returns c = texts.text_reads_alone
