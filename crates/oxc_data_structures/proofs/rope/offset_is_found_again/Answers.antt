use Rattle.oxc_data_structures.proofs.RopeColumns.{line_and_column-found}
use Rattle.oxc_data_structures.proofs.rope.offset_is_found_again.Goals as goal

pub returns : goal.returns
returns _ = line_and_column-found
