use Rattle.json_reading.proofs.TreesRead.{printed_trees_are_read}
use Rattle.json_reading.proofs.laws.printed_trees_are_read.Goals as goal

pub returns : goal.returns
returns c = printed_trees_are_read
