use Rattle.std.proofs.Common.{◌≡◌, ◌+◌, ◌*◌}
use Rattle.tree_nodes.specs.Look.{item_size, part_size, parts_size, past, tree_size}
use Rattle.tree_nodes.specs.Views.{part_of}
use Rattle.name_map.proofs.same.+same.Given as goal

abbrev pub decreases-same_node : goal.decreases-same_node
decreases-same_node l = 4 * tree_size l.a.now

abbrev pub decreases-same_fields : goal.decreases-same_fields
decreases-same_fields l = 4 * parts_size l.a.now + 1

abbrev pub decreases-same_field : goal.decreases-same_field
decreases-same_field l = 4 * part_size (part_of l.a.now) + 3

abbrev pub decreases-is_child : goal.decreases-is_child
decreases-is_child l = 4 * tree_size l.node.now + 1

abbrev pub decreases-is_list : goal.decreases-is_list
decreases-is_list l = 4 * parts_size l.nodes.now + 3

abbrev pub decreases-same_list : goal.decreases-same_list
decreases-same_list l = 4 * parts_size l.a.now + 2

abbrev pub decreases-same_item : goal.decreases-same_item
decreases-same_item l = 4 * item_size l.a.now + 2

abbrev pub decreases-is_node : goal.decreases-is_node
decreases-is_node l = 4 * tree_size l.node.now + 1

-- the lists are the same if what is left of them is
abbrev pub invariant-same_fields-loop-i : goal.invariant-same_fields-loop-i
invariant-same_fields-loop-i l = past l.i l.a ≡ past l.i l.b → l.a ≡ l.b

abbrev pub invariant-same_list-loop-i : goal.invariant-same_list-loop-i
invariant-same_list-loop-i l = past l.i l.a ≡ past l.i l.b → l.a ≡ l.b
