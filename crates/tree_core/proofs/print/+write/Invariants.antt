use Rattle.std.proofs.Common.{◌+◌, ◌-◌, ◌*◌, false, length, map, max}
use Rattle.oxc_estree.specs.Open.{add_fields, closed, list_of}
use Rattle.oxc_estree.specs.Out.{wrote}
use Rattle.oxc_estree.proofs.ListUnderWay.{IsListUnderWay}
use Rattle.tree_nodes.specs.Look.{item_size, part_size, parts_size, past, tree_size}
use Rattle.tree_core.specs.Meanings.{field_meanings, inside, inside_list, item_meanings}
use Rattle.tree_nodes.specs.Rows.{column_of}
use Rattle.tree_nodes.specs.Views.{part_of}
use Rattle.tree_core.proofs.LeftToPrint.{FieldsLeft, next_size}
use Rattle.tree_core.proofs.print.+write.Given as goal

abbrev pub decreases-write_node : goal.decreases-write_node
decreases-write_node g l = 8 * tree_size l.node.now

abbrev pub decreases-write_fields : goal.decreases-write_fields
decreases-write_fields g l = 8 * parts_size l.fields.now

abbrev pub decreases-write_shared : goal.decreases-write_shared
decreases-write_shared g l = 8 * max (part_size (part_of l.field.now)) (next_size l.next) + 4

abbrev pub decreases-write_pair : goal.decreases-write_pair
decreases-write_pair g l = 8 * max (part_size (part_of l.field.now)) (part_size (part_of l.next.now)) + 3

abbrev pub decreases-write_single : goal.decreases-write_single
decreases-write_single g l = 8 * part_size (part_of l.field.now) + 3

abbrev pub decreases-write_member : goal.decreases-write_member
decreases-write_member g l = 8 * part_size (part_of l.field.now) + 2

abbrev pub decreases-write_part : goal.decreases-write_part
decreases-write_part g l = 8 * part_size (part_of l.field.now) + 1

abbrev pub decreases-write_nodes : goal.decreases-write_nodes
decreases-write_nodes g l = 8 * parts_size l.nodes.now

abbrev pub decreases-write_element : goal.decreases-write_element
decreases-write_element g l = 8 * item_size l.item.now + 2

abbrev pub decreases-write_item : goal.decreases-write_item
decreases-write_item g l = 8 * item_size l.item.now + 1

abbrev pub decreases-write_fields-loop-i : goal.decreases-write_fields-loop-i
decreases-write_fields-loop-i g l = length l.columns - l.i

abbrev pub invariant-write_fields-loop-i : goal.invariant-write_fields-loop-i
invariant-write_fields-loop-i g l =
    let old = g.S.Serializer.out l.fn.serializer in
    FieldsLeft l.marked l.fields l.columns l.i old (g.S.Serializer.out l.serializer)
    (closed (add_fields (inside false old) (field_meanings l.marked l.fields (map column_of l.columns))))

abbrev pub invariant-write_nodes-loop-i : goal.invariant-write_nodes-loop-i
invariant-write_nodes-loop-i g l =
    let old = g.S.Serializer.out l.fn.serializer in
    IsListUnderWay old (inside_list l.i (g.S.Serializer.out l.serializer))
    (item_meanings (past l.i l.nodes)) (wrote old (list_of (item_meanings l.nodes)))
