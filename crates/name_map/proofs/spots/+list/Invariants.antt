use Rattle.std.proofs.Common.{◌≡◌, ◌++◌}
use Rattle.tree_nodes.specs.Look.{past}
use Rattle.name_map.specs.Spots.{pairs}
use Rattle.name_map.proofs.spots.+list.Given as goal

-- those of the fields that are left come after those that are listed
abbrev pub invariant-list_fields-loop-i : goal.invariant-list_fields-loop-i
invariant-list_fields-loop-i l = l.fn.list.items ++ pairs l.fields ≡ l.list.items ++ pairs (past l.i l.fields)

abbrev pub invariant-list_nodes-loop-i : goal.invariant-list_nodes-loop-i
invariant-list_nodes-loop-i l = l.fn.list.items ++ pairs l.nodes ≡ l.list.items ++ pairs (past l.i l.nodes)
