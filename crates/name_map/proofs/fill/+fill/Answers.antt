use Rattle.std.proofs.Common.{◌≡◌, ◌<◌, length, slice_index_or, refl, ap, ◌∙◌, arith, rules}
use Rattle.tree_nodes.specs.Look.{part_size, parts_size}
use Rattle.tree_nodes.specs.Views.{item_of, items_of, part_of, parts_of}
use Rattle.name_map.specs.Filled.{after, filled, own_filled, properties}
use Rattle.name_map.specs.Views.{given_view}
use Rattle.name_map.proofs.FilledJoined.{list_left, list_made, node_left, node_made}
use Rattle.name_map.proofs.FillSteps.{last_step, next_step}
use Rattle.tree_rename.proofs.LoopSteps.{if_ok_also, field_size, first_field, first_item, item_no_larger, item_part_size, smaller, written_back}
use Rattle.tree_rename.specs.Renamed.{count}
use Rattle.name_map.proofs.fill.+fill.Goals as goal

pub fill_field-returns-in-List-clause-tree : goal.fill_field-returns-in-List-clause-tree
fill_field-returns-in-List-clause-tree t c = if_ok_also c.fill_list.result (λ left e. rw c.in-List.is (list_made (given_view c.args.given) c.in-List.list c.fill_list.new.list e)) c.fill_list.ensures.tree

pub fill_field-returns-in-List-clause-left : goal.fill_field-returns-in-List-clause-left
fill_field-returns-in-List-clause-left t c = if_ok_also c.fill_list.result (λ left e. rw c.in-List.is (list_left (given_view c.args.given) (given_view left) c.in-List.list e)) c.fill_list.ensures.left

pub fill_field-returns-in_default : goal.fill_field-returns-in_default
unfolding count filled properties
fill_field-returns-in_default t c = search rules

pub fill_fields-fill_field-requires : goal.fill_fields-fill_field-requires
fill_fields-fill_field-requires t c =
    let cur = c.loop-field.fields in
    let inside : part_size (part_of (slice_index_or cur c.loop-field.field-index c.field-item.result)) < parts_size (parts_of c.args.fields.now) =
    smaller parts_of part_of refl first_field field_size c.args.fields.now cur c.loop-field.field-index c.field-item.result (omega (arith, c.loop-field.auto.fields, c.loop-field-test.true)) c.loop-field.invariant.2 in
    (omega (arith, c.decreases), tt)

pub fill_fields-loop-field-preserved : goal.fill_fields-loop-field-preserved
fill_fields-loop-field-preserved t c =
    next_step parts_of part_of refl first_field (given_view c.args.given) (given_view c.loop-field.left) (given_view c.in_ok-left.left) c.args.fields.now c.loop-field.fields c.loop-field.field-index c.field-item.result c.fill_field.new.field (omega (arith, c.loop-field.auto.fields, c.loop-field-test.true)) c.loop-field.invariant c.in_ok-left.ensures.tree c.in_ok-left.ensures.left

pub fill_fields-returns-clause-tree : goal.fill_fields-returns-clause-tree
fill_fields-returns-clause-tree t c =
    (last_step parts_of part_of refl first_field (given_view c.args.given) (given_view c.loop-field.left) c.args.fields.now c.loop-field.fields c.loop-field.field-index (omega (arith, c.loop-field.auto.fields, c.loop-field-test.false)) c.loop-field.invariant).0

pub fill_fields-returns-clause-left : goal.fill_fields-returns-clause-left
fill_fields-returns-clause-left t c =
    (last_step parts_of part_of refl first_field (given_view c.args.given) (given_view c.loop-field.left) c.args.fields.now c.loop-field.fields c.loop-field.field-index (omega (arith, c.loop-field.auto.fields, c.loop-field-test.false)) c.loop-field.invariant).1

pub fill_item-returns-in-None-clause-tree : goal.fill_item-returns-in-None-clause-tree
unfolding filled
fill_item-returns-in-None-clause-tree t c = search rules

pub fill_item-returns-in-None-clause-left : goal.fill_item-returns-in-None-clause-left
unfolding count properties
fill_item-returns-in-None-clause-left t c = search rules

pub fill_items-fill_item-requires : goal.fill_items-fill_item-requires
fill_items-fill_item-requires t c =
    let cur = c.loop-item.items in
    let x = slice_index_or cur c.loop-item.item-index c.item-item.result in
    let inside : part_size (item_of x) < parts_size (items_of c.args.items.now) =
    smaller items_of item_of refl first_item item_part_size c.args.items.now cur c.loop-item.item-index c.item-item.result (omega (arith, c.loop-item.auto.items, c.loop-item-test.true)) c.loop-item.invariant.2 in
    (omega (arith, c.decreases, item_no_larger x), tt)

pub fill_items-loop-item-preserved : goal.fill_items-loop-item-preserved
fill_items-loop-item-preserved t c =
    next_step items_of item_of refl first_item (given_view c.args.given) (given_view c.loop-item.left) (given_view c.in_ok-left.left) c.args.items.now c.loop-item.items c.loop-item.item-index c.item-item.result c.fill_item.new.item (omega (arith, c.loop-item.auto.items, c.loop-item-test.true)) c.loop-item.invariant c.in_ok-left.ensures.tree c.in_ok-left.ensures.left

pub fill_items-returns-clause-tree : goal.fill_items-returns-clause-tree
fill_items-returns-clause-tree t c =
    (last_step items_of item_of refl first_item (given_view c.args.given) (given_view c.loop-item.left) c.args.items.now c.loop-item.items c.loop-item.item-index (omega (arith, c.loop-item.auto.items, c.loop-item-test.false)) c.loop-item.invariant).0

pub fill_items-returns-clause-left : goal.fill_items-returns-clause-left
fill_items-returns-clause-left t c =
    (last_step items_of item_of refl first_item (given_view c.args.given) (given_view c.loop-item.left) c.args.items.now c.loop-item.items c.loop-item.item-index (omega (arith, c.loop-item.auto.items, c.loop-item-test.false)) c.loop-item.invariant).1

pub fill_node-returns-clause-tree : goal.fill_node-returns-clause-tree
fill_node-returns-clause-tree t c =
    let g = given_view c.args.given in
    let old = c.node.inside in
    let before : parts_of c.deref_mut.result.now ≡ old.fields = ap parts_of c.deref_mut.ensures.value ∙ c.into_vec-fields.ensures ∙ c.replace.ensures.value in
    let back = written_back c.into_vec-fields.result.len c.fill_fields.new.fields c.into_vec-fields.result.items c.into_vec-fields.result.ok.0 (c.fill_fields.auto.fields ∙ ap length c.deref_mut.ensures.value) in
    rw (← c.node.view_is)
    (node_made g (given_view c.inside.result) old.kind old.start old.end old.fields (parts_of c.fill_fields.new.fields) c.in_ok-node-inside.field-0
    c.inside.ensures
    (c.in_ok-left.ensures.tree ∙ ap (filled (given_view c.inside.result)) before)
    (c.in_ok-node-inside.ensures ∙ ap (λ xs. own_filled old.kind g (parts_of xs)) back))

pub fill_node-returns-clause-left : goal.fill_node-returns-clause-left
fill_node-returns-clause-left t c =
    let g = given_view c.args.given in
    let old = c.node.inside in
    let before : parts_of c.deref_mut.result.now ≡ old.fields = ap parts_of c.deref_mut.ensures.value ∙ c.into_vec-fields.ensures ∙ c.replace.ensures.value in
    rw (← c.node.view_is)
    (node_left g (given_view c.inside.result) (given_view c.in_ok-left.left) old.kind old.start old.end old.fields
    c.inside.ensures
    (c.in_ok-left.ensures.left ∙ ap (λ p. after p (given_view c.inside.result)) before))
