use Rattle.tree_core.proofs.ReadableRows.{rows_readable}
use Rattle.tree_core.proofs.read.row_for.Goals as goal

pub returns-clause-readable : goal.returns-clause-readable
returns-clause-readable c = rows_readable c.row_named.result c.in_ok-text_in.field-0.now c.row_named.ensures
