use Rattle.json_reading.proofs.ValuesRead.{printed_values_are_read}
use Rattle.json_reading.proofs.laws.printed_values_are_read.Goals as goal

pub returns : goal.returns
returns c = printed_values_are_read
