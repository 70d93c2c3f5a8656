use Rattle.std.proofs.Common.{◌≡◌}
use Rattle.tree_nodes.specs.Look.{past}
use Rattle.tree_places.specs.Places.{directs}
use Rattle.place_list.proofs.directives.directs.Given as goal

-- what is left decides
abbrev pub invariant-loop-i : goal.invariant-loop-i
invariant-loop-i l = directs l.items ≡ directs (past l.i l.items)
