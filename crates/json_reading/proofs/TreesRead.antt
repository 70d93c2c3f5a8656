-- The text of a tree's value is read as the tree.
use Rattle.json_reading.proofs.Shapes.{tree_read}
use Rattle.json_reading.proofs.TreeValues.{tree_readable}
use Rattle.json_reading.proofs.ValuesRead.{printed_values_are_read}
use Rattle.json_reading.specs.Laws.{PrintedTreesAreRead}
use Rattle.json_reading.specs.Parsed.{parsed_as}
use Rattle.tree_core.proofs.ReadsBack.{reading_undoes_printing}
use Rattle.tree_core.specs.Values.{value_of}

pub printed_trees_are_read : PrintedTreesAreRead
printed_trees_are_read l v t e whole shallow =
    let readable = tree_readable v t e whole in
    let r = printed_values_are_read l (value_of t) readable shallow in
    record { value = parsed_as (value_of t); utf8 = r.0; parses = r.1; is_tree = tree_read (value_of t) t readable (reading_undoes_printing v t e) }
