use Rattle.std.proofs.Common.{drop, sym, ap, ◌∙◌}
use Rattle.tree_nodes.specs.Along.{each, first_column}
use Rattle.tree_nodes.specs.Table.{Column, Row}
use Rattle.tree_nodes.proofs.ColumnsAlong.{found_column, no_column}
use Rattle.tree_patterns.specs.BoundNames.{declares, declaring}
use Rattle.tree_patterns.proofs.BoundAlong.{unlisted_is_none}
use Rattle.tree_patterns.proofs.patterns.field_declares.Goals as goal

pub returns-in-Some : goal.returns-in-Some
returns-in-Some c =
    let fields = c.args.fields.now in
    let here = found_column c.row.result.now.columns.now c.args.i c.in-Some.column.now c.in-Some.ensures
    ∙ ap (λ (r : Row). first_column (each (drop c.args.i r.columns))) c.row.ensures in
    c.declares.ensures ∙ ap (λ (k : Column). declares declaring k fields) here

pub returns-in-None : goal.returns-in-None
returns-in-None c =
    let fields = c.args.fields.now in
    let here = no_column c.row.result.now.columns.now c.args.i c.in-None.ensures
    ∙ ap (λ (r : Row). first_column (each (drop c.args.i r.columns))) c.row.ensures in
    sym (unlisted_is_none fields) ∙ ap (λ (k : Column). declares declaring k fields) here
