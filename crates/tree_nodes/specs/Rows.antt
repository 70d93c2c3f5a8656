-- The table's rows in the code, as data.
use Rattle.std.specs.Prelude.{map}
use Rattle.tree_nodes.specs.Table as spec
use Rattle.tree_nodes.specs.declared.table.Column.{Column}
use Rattle.tree_nodes.specs.declared.table.Row.{Row}

abbrev pub column_of : Column → spec.Column
column_of c = record { key = c.key.now; class = c.class; mode = c.mode; inside = c.inside; mark = c.mark; omit = c.omit }

abbrev pub row_of : Row → spec.Row
row_of r = record { kind = r.kind; name = r.name.now; opens = r.opens; strict = r.strict; columns = map column_of r.columns.now }
