use Rattle.std.proofs.Common.{◌≤◌, refl, rules, sym}
use Rattle.std.proofs.lemmas.List.{append-nil}
use Rattle.name_map.specs.Spots.{pairs}
use Rattle.name_map.proofs.ListedPairs.{all_listed, list_listed, listed_field, listed_item, node_listed, nothing_listed}
use Rattle.tree_nodes.proofs.Lists.{past_end, past_items, past_len}
use Rattle.tree_nodes.specs.Look.{parts_len}
use Rattle.tree_nodes.specs.Tree.{Tree}
use Rattle.tree_nodes.specs.Views.{item_of, part_of}
use Rattle.tree_rename.proofs.LoopSteps.{if_ok_also}
use Rattle.name_map.proofs.spots.+list.Goals as goal

pub list_fields-loop-i-preserved : goal.list_fields-loop-i-preserved
list_fields-loop-i-preserved t c =
    listed_field c.args.fields.now c.loop-i.i c.args.list.now.items c.loop-i.list.items c.loop-i.invariant (part_of c.in-Some.field.now) c.list_field.new.list.items c.in-Some.ensures.part c.in_ok-list_field.ensures

pub list_fields-returns-after-loop-i : goal.list_fields-returns-after-loop-i
list_fields-returns-after-loop-i t c =
    let fields = c.args.fields.now in
    let over : parts_len fields ≤ c.loop-i.i = rw (← c.len-i-end.ensures) c.loop-i-test.false in
    all_listed fields c.loop-i.i c.args.list.now.items c.loop-i.list.items c.loop-i.invariant (past_len fields c.loop-i.i over)

pub list_fields-returns-in_default : goal.list_fields-returns-in_default
list_fields-returns-in_default t c =
    let fields = c.args.fields.now in
    all_listed fields c.loop-i.i c.args.list.now.items c.loop-i.list.items c.loop-i.invariant (past_end fields c.loop-i.i (sym c.in_default.ensures.part))

pub list_nodes-loop-i-preserved : goal.list_nodes-loop-i-preserved
list_nodes-loop-i-preserved t c =
    listed_item c.args.nodes.now c.loop-i.i c.args.list.now.items c.loop-i.list.items c.loop-i.invariant c.in-Some.item.now c.list_item.new.list.items c.len-i-end.ensures.shaped c.in-Some.ensures.item c.in_ok-list_item.ensures

pub list_nodes-returns-after-loop-i : goal.list_nodes-returns-after-loop-i
list_nodes-returns-after-loop-i t c =
    let nodes = c.args.nodes.now in
    let over : parts_len nodes ≤ c.loop-i.i = rw (← c.len-i-end.ensures.len) c.loop-i-test.false in
    all_listed nodes c.loop-i.i c.args.list.now.items c.loop-i.list.items c.loop-i.invariant (past_len nodes c.loop-i.i over)

pub list_nodes-returns-in_default : goal.list_nodes-returns-in_default
list_nodes-returns-in_default t c =
    let nodes = c.args.nodes.now in
    all_listed nodes c.loop-i.i c.args.list.now.items c.loop-i.list.items c.loop-i.invariant (past_items nodes c.loop-i.i (sym c.in_default.ensures.item))

pub list_field-returns-in-List : goal.list_field-returns-in-List
list_field-returns-in-List t c =
    if_ok_also c.list_nodes.result (λ x e. rw c.in-List.is (list_listed c.in-List.nodes c.args.list.now.items c.list_nodes.new.list.items e)) c.list_nodes.ensures

pub list_field-returns-in_default : goal.list_field-returns-in_default
unfolding pairs
list_field-returns-in_default t c = search (rules, append-nil)

pub list_item-returns-in-None : goal.list_item-returns-in-None
unfolding pairs
list_item-returns-in-None t c = nothing_listed (item_of c.args.item.now) c.args.list.now.items (rw c.in-None.is refl)

pub list_node-returns : goal.list_node-returns
list_node-returns t c =
    let node : Tree = record { kind = c.node.inside.kind; start = c.node.inside.start; stop = c.node.inside.end; fields = c.node.inside.fields } in
    rw (← c.node.view_is)
    (if_ok_also c.list_fields.result (λ x e. node_listed node c.args.list.now.items c.list_own.new.list.items c.list_fields.new.list.items c.in_ok-list_own.ensures e) c.list_fields.ensures)
