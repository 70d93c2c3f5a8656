use Rattle.std.proofs.Common.{◌≡◌, map}
use Rattle.serde_json.specs.View.{members_view}
use Rattle.tree_core.specs.JsonOf.{members_of}
use Rattle.tree_core.specs.Reading.{only_known}
use Rattle.tree_nodes.specs.Rows.{column_of}
use Rattle.tree_core.proofs.read.only_known.Given as goal

abbrev pub invariant-loop-key : goal.invariant-loop-key
invariant-loop-key l =
    only_known (map column_of l.columns) (members_of (members_view l.members.entries)) ≡ only_known (map column_of l.columns) (members_of (members_view l.key-iterator))
