use Rattle.std.proofs.Common.{◌≤◌, ◌∙◌, ap, map, rules, sym}
use Rattle.place_list.specs.TableViews.{around_view, list_view}
use Rattle.place_list.specs.TableWalk.{listed_node, walk}
use Rattle.tree_nodes.specs.Along.{first_column, other_columns}
use Rattle.tree_nodes.specs.Look.{parts_len}
use Rattle.tree_nodes.specs.Rows.{column_of, row_of}
use Rattle.tree_nodes.specs.Tree.{Tree}
use Rattle.tree_nodes.specs.Views.{part_of}
use Rattle.tree_nodes.proofs.Lists.{past_end, past_items, past_len}
use Rattle.place_list.proofs.WalkSteps.{all_items_walked, all_walked, node_is, walked_field, walked_item}
use Rattle.place_list.proofs.walk.+walk.Goals as goal

pub walk_node-returns : goal.walk_node-returns
walk_node-returns t c =
    let node : Tree = record { kind = c.node.inside.kind; start = c.node.inside.start; stop = c.node.inside.end; fields = c.node.inside.fields } in
    rw (← c.node.view_is)
    (node_is node (column_of c.args.column.now) (around_view c.args.around.now) (list_view c.args.list.now) (list_view c.stand_in.new.list) (list_view c.list_node.new.list) (list_view c.meet.new.list)
    (row_of c.row-row.result.now) c.in_ok-here.here c.in_ok-inside.inside c.value_scope.result c.scope_kind-kind.result c.row-row.ensures c.in_ok-here.ensures.here c.in_ok-here.ensures.put c.in_ok-inside.ensures
    c.value_scope.ensures c.scope_kind-kind.ensures (c.in_ok-list_node.ensures ∙ ap (λ (n : Tree). listed_node (around_view c.args.around.now) c.in_ok-here.here n (list_view c.stand_in.new.list)) (sym c.node.view_is)) c.in_ok-meet.ensures
    c.walk_fields.result (λ _. list_view c.walk_fields.new.list) c.walk_fields.ensures)

pub walk_field-returns-in-List : goal.walk_field-returns-in-List
unfolding walk first_column other_columns
walk_field-returns-in-List t c = rw c.in-List.is c.walk_nodes.ensures

pub walk_field-returns-in_default : goal.walk_field-returns-in_default
unfolding walk
walk_field-returns-in_default t c = search rules

pub walk_item-returns-in-None : goal.walk_item-returns-in-None
unfolding walk
walk_item-returns-in-None t c = search rules

pub walk_fields-loop-i-preserved : goal.walk_fields-loop-i-preserved
walk_fields-loop-i-preserved t c =
    walked_field c.args.fields.now (map column_of c.args.columns.now) (around_view c.args.around.now) c.loop-i.i (list_view c.args.list.now) (list_view c.loop-i.list) c.loop-i.invariant
    (part_of c.in-Some.field.now) (column_of c.column_at-column.result) (list_view c.walk_field.new.list) c.in-Some.ensures.part c.column_at-column.ensures c.in_ok-walk_field.ensures

pub walk_fields-returns-after-loop-i : goal.walk_fields-returns-after-loop-i
walk_fields-returns-after-loop-i t c =
    let fields = c.args.fields.now in
    let over : parts_len fields ≤ c.loop-i.i = rw (← c.len-i-end.ensures) c.loop-i-test.false in
    all_walked fields (map column_of c.args.columns.now) (around_view c.args.around.now) c.loop-i.i (list_view c.args.list.now) (list_view c.loop-i.list) c.loop-i.invariant (past_len fields c.loop-i.i over)

pub walk_fields-returns-in_default : goal.walk_fields-returns-in_default
walk_fields-returns-in_default t c =
    let fields = c.args.fields.now in
    all_walked fields (map column_of c.args.columns.now) (around_view c.args.around.now) c.loop-i.i (list_view c.args.list.now) (list_view c.loop-i.list) c.loop-i.invariant (past_end fields c.loop-i.i (sym c.in_default.ensures.part))

pub walk_nodes-loop-i-preserved : goal.walk_nodes-loop-i-preserved
walk_nodes-loop-i-preserved t c =
    walked_item (column_of c.args.column.now) (around_view c.args.around.now) c.args.nodes.now c.loop-i.i (list_view c.args.list.now) (list_view c.loop-i.list) c.loop-i.invariant
    c.in-Some.item.now (list_view c.walk_item.new.list) c.len-i-end.ensures.shaped c.in-Some.ensures.item c.in_ok-walk_item.ensures

pub walk_nodes-returns-after-loop-i : goal.walk_nodes-returns-after-loop-i
walk_nodes-returns-after-loop-i t c =
    let nodes = c.args.nodes.now in
    let over : parts_len nodes ≤ c.loop-i.i = rw (← c.len-i-end.ensures.len) c.loop-i-test.false in
    all_items_walked (column_of c.args.column.now) (around_view c.args.around.now) nodes c.loop-i.i (list_view c.args.list.now) (list_view c.loop-i.list) c.loop-i.invariant (past_len nodes c.loop-i.i over)

pub walk_nodes-returns-in_default : goal.walk_nodes-returns-in_default
walk_nodes-returns-in_default t c =
    let nodes = c.args.nodes.now in
    all_items_walked (column_of c.args.column.now) (around_view c.args.around.now) nodes c.loop-i.i (list_view c.args.list.now) (list_view c.loop-i.list) c.loop-i.invariant (past_items nodes c.loop-i.i (sym c.in_default.ensures.item))
