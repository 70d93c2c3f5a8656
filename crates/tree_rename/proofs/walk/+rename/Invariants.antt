use Rattle.std.proofs.Common.{◌≡◌, ◌+◌, ◌*◌, drop, map, string_bytes, take}
use Rattle.tree_nodes.specs.Look.{item_size, onto, part_size, parts_size, tree_size}
use Rattle.tree_nodes.specs.Views.{items_of, part_of, parts_of}
use Rattle.tree_rename.specs.Renamed.{count, renamed}
use Rattle.tree_rename.proofs.walk.+rename.Given as goal

abbrev pub decreases-rename_node : goal.decreases-rename_node
decreases-rename_node l = 4 * tree_size l.node.now

abbrev pub decreases-rename_fields : goal.decreases-rename_fields
decreases-rename_fields l = 4 * parts_size (parts_of l.fields.now) + 1

abbrev pub decreases-rename_field : goal.decreases-rename_field
decreases-rename_field l = 4 * part_size (part_of l.field.now) + 3

abbrev pub decreases-rename_list : goal.decreases-rename_list
decreases-rename_list l = 4 * parts_size l.list.now + 2

abbrev pub decreases-rename_items : goal.decreases-rename_items
decreases-rename_items l = 4 * parts_size (items_of l.items.now) + 1

abbrev pub decreases-rename_item : goal.decreases-rename_item
decreases-rename_item l = 4 * item_size l.item.now + 1

-- the fields that are done stand before those that are left, which are as they were
abbrev pub invariant-rename_fields-loop-field : goal.invariant-rename_fields-loop-field
invariant-rename_fields-loop-field l =
    let given = map string_bytes l.names in
    (renamed given l.choices (parts_of l.initial.fields) ≡ onto (parts_of (take l.field-index l.fields)) (renamed given l.left (parts_of (drop l.field-index l.fields))))
    × (drop (count (parts_of l.initial.fields)) l.choices ≡ drop (count (parts_of (drop l.field-index l.fields))) l.left)
    × (drop l.field-index l.fields ≡ drop l.field-index l.initial.fields)

abbrev pub invariant-rename_items-loop-item : goal.invariant-rename_items-loop-item
invariant-rename_items-loop-item l =
    let given = map string_bytes l.names in
    (renamed given l.choices (items_of l.initial.items) ≡ onto (items_of (take l.item-index l.items)) (renamed given l.left (items_of (drop l.item-index l.items))))
    × (drop (count (items_of l.initial.items)) l.choices ≡ drop (count (items_of (drop l.item-index l.items))) l.left)
    × (drop l.item-index l.items ≡ drop l.item-index l.initial.items)
