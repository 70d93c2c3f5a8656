use Rattle.tree_nodes.proofs.ColumnsAlong.{found_column, no_column}
use Rattle.place_list.proofs.walk.column_at.Goals as goal

pub returns-in-Some : goal.returns-in-Some
returns-in-Some c = found_column c.args.columns.now c.args.i c.in-Some.column.now c.in-Some.ensures

pub returns-in-None : goal.returns-in-None
returns-in-None c = no_column c.args.columns.now c.args.i c.in-None.ensures
