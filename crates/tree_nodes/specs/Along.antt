-- The columns beside a run of parts: one for each field of a node, or one for all items of a list.
use Rattle.std.specs.Prelude.{List, [], ◌∷◌}
use Rattle.tree_nodes.specs.Table.{Column, unlisted}

pub data Along : Type 0 where
  each : List Column → Along
  all : Column → Along

unfoldable pub first_column : Along → Column
first_column (each []) = unlisted
first_column (each (c ∷ cs)) = c
first_column (all c) = c

unfoldable pub other_columns : Along → Along
other_columns (each []) = each []
other_columns (each (c ∷ cs)) = each cs
other_columns (all c) = all c
