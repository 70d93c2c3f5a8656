use Rattle.std.proofs.Common.{◌≡◌, ◌+◌, ◌*◌, option_map, map, drop}
use Rattle.serde_json.specs.Data.{depth, items_depth, members_depth}
use Rattle.serde_json.specs.View.{view, items_view, members_view}
use Rattle.tree_core.specs.JsonOf as json
use Rattle.tree_nodes.specs.Look.{onto}
use Rattle.tree_core.specs.Readable.{fields_in}
use Rattle.tree_nodes.specs.Rows.{column_of}
use Rattle.tree_nodes.specs.Views.{parts_of, items_of}
use Rattle.tree_core.proofs.ReadSoFar.{nodes_of}
use Rattle.tree_core.proofs.read.+read.Given as goal

abbrev pub decreases-read_node : goal.decreases-read_node
decreases-read_node l = 8 * depth (view l.value.now)

abbrev pub decreases-read_object : goal.decreases-read_object
decreases-read_object l = 8 * members_depth (members_view l.members.now.entries) + 7

abbrev pub decreases-read_fields : goal.decreases-read_fields
decreases-read_fields l = 8 * members_depth (members_view l.members.now.entries) + 6

abbrev pub decreases-read_member : goal.decreases-read_member
decreases-read_member l = 8 * members_depth (members_view l.members.now.entries) + 5

abbrev pub decreases-read_part : goal.decreases-read_part
decreases-read_part l = 8 * depth (view l.value.now) + 4

abbrev pub decreases-read_child : goal.decreases-read_child
decreases-read_child l = 8 * depth (view l.value.now) + 1

abbrev pub decreases-read_list : goal.decreases-read_list
decreases-read_list l = 8 * depth (view l.value.now) + 3

abbrev pub decreases-read_items : goal.decreases-read_items
decreases-read_items l = 8 * items_depth (items_view l.items.now.items) + 2

abbrev pub decreases-read_item : goal.decreases-read_item
decreases-read_item l = 8 * depth (view l.value.now) + 1

-- the fields of the columns that are left stand behind those that are read
abbrev pub invariant-read_fields-loop-column : goal.invariant-read_fields-loop-column
invariant-read_fields-loop-column l =
    let ms = json.members_of (members_view l.members.entries) in
    fields_in ms (map column_of l.columns) ≡ option_map (onto (parts_of l.fields.items)) (fields_in ms (map column_of (drop l.column-index l.columns)))

abbrev pub invariant-read_items-loop-item : goal.invariant-read_items-loop-item
invariant-read_items-loop-item l = nodes_of l.holes l.item-items ≡ option_map (onto (items_of l.nodes.items)) (nodes_of l.holes (drop l.item-index l.item-items))
