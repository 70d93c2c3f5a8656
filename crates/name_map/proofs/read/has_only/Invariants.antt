use Rattle.std.proofs.Common.{◌≡◌}
use Rattle.serde_json.specs.View.{members_view}
use Rattle.tree_core.specs.JsonOf.{members_of}
use Rattle.tree_core.specs.Reading.{has_only}
use Rattle.name_map.proofs.read.has_only.Given as goal

-- the keys that the loop has passed are among the two
abbrev pub invariant-loop-key : goal.invariant-loop-key
invariant-loop-key l =
    has_only l.first l.second (members_of (members_view l.members.entries))
    ≡ has_only l.first l.second (members_of (members_view l.key-iterator))
