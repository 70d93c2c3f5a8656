use Rattle.json_text.proofs.Once.{reads_once}
use Rattle.json_text.proofs.reads_one_value.Goals as goal

pub returns : goal.returns
returns c = reads_once
