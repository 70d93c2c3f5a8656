use Rattle.std.proofs.Common.{◌≤◌, map, sym, ap, ◌∙◌, rules}
use Rattle.tree_nodes.specs.Along.{each}
use Rattle.tree_nodes.specs.Look.{parts_len}
use Rattle.tree_nodes.specs.Roles.{role_at}
use Rattle.tree_nodes.specs.Rows.{column_of}
use Rattle.tree_nodes.specs.Standing.{stands, stands_in}
use Rattle.tree_nodes.specs.Table.{Column, Row}
use Rattle.tree_nodes.specs.Tree.{Tree}
use Rattle.tree_nodes.specs.Views.{part_of}
use Rattle.tree_nodes.proofs.Lists.{past_len, past_end, past_items}
use Rattle.tree_nodes.proofs.StandingWalks.{refused_field, passed_field, no_field, refused_item, passed_item, no_items_left, list_is, unfit_node, fit_node}
use Rattle.tree_nodes.proofs.standing.+stand.Goals as goal

pub field_stands-returns-in-List : goal.field_stands-returns-in-List
field_stands-returns-in-List t c = rw c.in-List.is (c.nodes_stand.ensures ∙ sym (list_is c.args.class c.args.role c.args.within.now c.in-List.nodes))

pub field_stands-returns-in_default : goal.field_stands-returns-in_default
unfolding stands
field_stands-returns-in_default t c = search rules

pub item_stands-returns-in-None : goal.item_stands-returns-in-None
unfolding stands
item_stands-returns-in-None t c = search rules

pub fields_stand-returns-then-not-field_stands : goal.fields_stand-returns-then-not-field_stands
fields_stand-returns-then-not-field_stands t c =
    let fields = c.args.fields.now in
    let cs = map column_of c.args.columns.now in
    let p = part_of c.in-Some.field.now in
    let here = ap (λ r. stands_in c.column_at-column.result.class r fields p) c.role_at.ensures ∙ ap (λ (k : Column). stands_in k.class (role_at k.mode c.args.own fields) fields p) c.column_at-column.ensures in
    refused_field fields cs c.args.own c.loop-i.i c.loop-i.invariant p c.in-Some.ensures.part (sym here ∙ sym c.field_stands.ensures ∙ c.if-not-field_stands.true)

pub fields_stand-loop-i-preserved : goal.fields_stand-loop-i-preserved
fields_stand-loop-i-preserved t c =
    let fields = c.args.fields.now in
    let cs = map column_of c.args.columns.now in
    let p = part_of c.in-Some.field.now in
    let here = ap (λ r. stands_in c.column_at-column.result.class r fields p) c.role_at.ensures ∙ ap (λ (k : Column). stands_in k.class (role_at k.mode c.args.own fields) fields p) c.column_at-column.ensures in
    passed_field fields cs c.args.own c.loop-i.i c.loop-i.invariant p c.in-Some.ensures.part (sym here ∙ sym c.field_stands.ensures ∙ c.if-not-field_stands.false)

pub fields_stand-returns-after-loop-i : goal.fields_stand-returns-after-loop-i
fields_stand-returns-after-loop-i t c =
    let over : parts_len c.args.fields.now ≤ c.loop-i.i = rw (← c.len-i-end.ensures) c.loop-i-test.false in
    no_field c.args.fields.now (map column_of c.args.columns.now) c.args.own c.loop-i.i c.loop-i.invariant (past_len c.args.fields.now c.loop-i.i over)

pub fields_stand-returns-in_default : goal.fields_stand-returns-in_default
fields_stand-returns-in_default t c =
    no_field c.args.fields.now (map column_of c.args.columns.now) c.args.own c.loop-i.i c.loop-i.invariant (past_end c.args.fields.now c.loop-i.i (sym c.in_default.ensures.part))

pub node_stands-returns-then-is_fit : goal.node_stands-returns-then-is_fit
node_stands-returns-then-is_fit t c =
    let node : Tree = record { kind = c.node.inside.kind; start = c.node.inside.start; stop = c.node.inside.end; fields = c.node.inside.fields } in
    rw (← c.node.view_is)
    (c.fields_stand.ensures ∙ ap (λ (r : Row). stands c.node.inside.fields (each r.columns) c.args.role c.node.inside.fields) c.row.ensures
    ∙ fit_node c.args.class c.args.role c.args.within.now node (sym c.is_fit.ensures ∙ c.if-is_fit.true))

pub node_stands-returns-else-is_fit : goal.node_stands-returns-else-is_fit
node_stands-returns-else-is_fit t c =
    let node : Tree = record { kind = c.node.inside.kind; start = c.node.inside.start; stop = c.node.inside.end; fields = c.node.inside.fields } in
    rw (← c.node.view_is)
    (c.if-is_fit.false ∙ unfit_node c.args.class c.args.role c.args.within.now node (sym c.is_fit.ensures ∙ c.if-is_fit.false))

pub nodes_stand-returns-then-not-item_stands : goal.nodes_stand-returns-then-not-item_stands
nodes_stand-returns-then-not-item_stands t c =
    refused_item c.args.class c.args.role c.args.within.now c.args.nodes.now c.loop-i.i c.loop-i.invariant c.len-i-end.ensures.shaped c.in-Some.item.now c.in-Some.ensures.item (sym c.item_stands.ensures ∙ c.if-not-item_stands.true)

pub nodes_stand-loop-i-preserved : goal.nodes_stand-loop-i-preserved
nodes_stand-loop-i-preserved t c =
    passed_item c.args.class c.args.role c.args.within.now c.args.nodes.now c.loop-i.i c.loop-i.invariant c.len-i-end.ensures.shaped c.in-Some.item.now c.in-Some.ensures.item (sym c.item_stands.ensures ∙ c.if-not-item_stands.false)

pub nodes_stand-returns-after-loop-i : goal.nodes_stand-returns-after-loop-i
nodes_stand-returns-after-loop-i t c =
    let over : parts_len c.args.nodes.now ≤ c.loop-i.i = rw (← c.len-i-end.ensures.len) c.loop-i-test.false in
    no_items_left c.args.class c.args.role c.args.within.now c.args.nodes.now c.loop-i.i c.loop-i.invariant c.len-i-end.ensures.shaped (past_len c.args.nodes.now c.loop-i.i over)

pub nodes_stand-returns-in_default : goal.nodes_stand-returns-in_default
nodes_stand-returns-in_default t c =
    no_items_left c.args.class c.args.role c.args.within.now c.args.nodes.now c.loop-i.i c.loop-i.invariant c.len-i-end.ensures.shaped (past_items c.args.nodes.now c.loop-i.i (sym c.in_default.ensures.item))
