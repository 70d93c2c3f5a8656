use Rattle.std.proofs.Common.{◌≡◌, map, drop}
use Rattle.tree_core.specs.Reading.{is_listed}
use Rattle.tree_nodes.specs.Rows.{column_of}
use Rattle.tree_core.proofs.read.is_listed.Given as goal

-- no column that the loop has passed has the key
abbrev pub invariant-loop-column : goal.invariant-loop-column
invariant-loop-column l = is_listed l.key (map column_of l.columns) ≡ is_listed l.key (map column_of (drop l.column-index l.columns))
