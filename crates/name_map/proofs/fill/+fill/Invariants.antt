use Rattle.std.proofs.Common.{◌+◌, ◌*◌}
use Rattle.tree_nodes.specs.Look.{item_size, part_size, parts_size, tree_size}
use Rattle.tree_nodes.specs.Views.{items_of, part_of, parts_of}
use Rattle.name_map.specs.Views.{given_view}
use Rattle.name_map.proofs.FillSteps.{IsStep}
use Rattle.name_map.proofs.fill.+fill.Given as goal

abbrev pub decreases-fill_node : goal.decreases-fill_node
decreases-fill_node l = 4 * tree_size l.node.now

abbrev pub decreases-fill_fields : goal.decreases-fill_fields
decreases-fill_fields l = 4 * parts_size (parts_of l.fields.now) + 1

abbrev pub decreases-fill_field : goal.decreases-fill_field
decreases-fill_field l = 4 * part_size (part_of l.field.now) + 3

abbrev pub decreases-fill_list : goal.decreases-fill_list
decreases-fill_list l = 4 * parts_size l.list.now + 2

abbrev pub decreases-fill_items : goal.decreases-fill_items
decreases-fill_items l = 4 * parts_size (items_of l.items.now) + 1

abbrev pub decreases-fill_item : goal.decreases-fill_item
decreases-fill_item l = 4 * item_size l.item.now + 1

-- the fields that are done stand before those that are left, which are as they were
abbrev pub invariant-fill_fields-loop-field : goal.invariant-fill_fields-loop-field
invariant-fill_fields-loop-field l = IsStep parts_of (given_view l.given) l.initial.fields l.field-index l.fields (given_view l.left)

abbrev pub invariant-fill_items-loop-item : goal.invariant-fill_items-loop-item
invariant-fill_items-loop-item l = IsStep items_of (given_view l.given) l.initial.items l.item-index l.items (given_view l.left)
