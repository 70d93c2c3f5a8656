use Rattle.std.proofs.Common.{◌≡◌, ◌<◌, length, drop, map, string_bytes, slice_index_or, refl, ap, ◌∙◌, arith, rules}
use Rattle.tree_nodes.specs.Look.{part_size, parts_size}
use Rattle.tree_nodes.specs.Views.{item_of, items_of, part_of, parts_of}
use Rattle.tree_rename.specs.Renamed.{count, finished, renamed}
use Rattle.tree_rename.proofs.RenamedJoined.{list_left, list_made, node_left, node_made}
use Rattle.tree_rename.proofs.LoopSteps.{if_ok_also, field_size, first_field, first_item, item_no_larger, item_part_size, last_step, next_step, smaller, written_back}
use Rattle.tree_rename.proofs.walk.+rename.Goals as goal

pub rename_field-returns-in-List-clause-tree : goal.rename_field-returns-in-List-clause-tree
rename_field-returns-in-List-clause-tree t c = if_ok_also c.rename_list.result (λ left e. rw c.in-List.is (list_made (map string_bytes c.args.names.now) c.args.choices.now c.in-List.list c.rename_list.new.list e)) c.rename_list.ensures.tree

pub rename_field-returns-in-List-clause-left : goal.rename_field-returns-in-List-clause-left
rename_field-returns-in-List-clause-left t c = if_ok_also c.rename_list.result (λ left e. rw c.in-List.is (list_left c.args.choices.now left.now c.in-List.list e)) c.rename_list.ensures.left

pub rename_field-returns-in_default : goal.rename_field-returns-in_default
unfolding count renamed
rename_field-returns-in_default t c = search rules

pub rename_fields-rename_field-requires : goal.rename_fields-rename_field-requires
rename_fields-rename_field-requires t c =
    let cur = c.loop-field.fields in
    let inside : part_size (part_of (slice_index_or cur c.loop-field.field-index c.field-item.result)) < parts_size (parts_of c.args.fields.now) =
    smaller parts_of part_of refl first_field field_size c.args.fields.now cur c.loop-field.field-index c.field-item.result (omega (arith, c.loop-field.auto.fields, c.loop-field-test.true)) c.loop-field.invariant.2 in
    (omega (arith, c.decreases), tt)

pub rename_fields-loop-field-preserved : goal.rename_fields-loop-field-preserved
rename_fields-loop-field-preserved t c =
    next_step parts_of part_of refl first_field (map string_bytes c.args.names.now) c.args.choices.now c.loop-field.left.now c.in_ok-left.left.now c.args.fields.now c.loop-field.fields c.loop-field.field-index c.field-item.result c.rename_field.new.field (omega (arith, c.loop-field.auto.fields, c.loop-field-test.true)) c.loop-field.invariant c.in_ok-left.ensures.tree c.in_ok-left.ensures.left

pub rename_fields-returns-clause-tree : goal.rename_fields-returns-clause-tree
rename_fields-returns-clause-tree t c =
    (last_step parts_of part_of refl first_field (map string_bytes c.args.names.now) c.args.choices.now c.loop-field.left.now c.args.fields.now c.loop-field.fields c.loop-field.field-index (omega (arith, c.loop-field.auto.fields, c.loop-field-test.false)) c.loop-field.invariant).0

pub rename_fields-returns-clause-left : goal.rename_fields-returns-clause-left
rename_fields-returns-clause-left t c =
    (last_step parts_of part_of refl first_field (map string_bytes c.args.names.now) c.args.choices.now c.loop-field.left.now c.args.fields.now c.loop-field.fields c.loop-field.field-index (omega (arith, c.loop-field.auto.fields, c.loop-field-test.false)) c.loop-field.invariant).1

pub rename_item-returns-in-None-clause-tree : goal.rename_item-returns-in-None-clause-tree
unfolding renamed
rename_item-returns-in-None-clause-tree t c = search rules

pub rename_item-returns-in-None-clause-left : goal.rename_item-returns-in-None-clause-left
unfolding count
rename_item-returns-in-None-clause-left t c = search rules

pub rename_items-rename_item-requires : goal.rename_items-rename_item-requires
rename_items-rename_item-requires t c =
    let cur = c.loop-item.items in
    let x = slice_index_or cur c.loop-item.item-index c.item-item.result in
    let inside : part_size (item_of x) < parts_size (items_of c.args.items.now) =
    smaller items_of item_of refl first_item item_part_size c.args.items.now cur c.loop-item.item-index c.item-item.result (omega (arith, c.loop-item.auto.items, c.loop-item-test.true)) c.loop-item.invariant.2 in
    (omega (arith, c.decreases, item_no_larger x), tt)

pub rename_items-loop-item-preserved : goal.rename_items-loop-item-preserved
rename_items-loop-item-preserved t c =
    next_step items_of item_of refl first_item (map string_bytes c.args.names.now) c.args.choices.now c.loop-item.left.now c.in_ok-left.left.now c.args.items.now c.loop-item.items c.loop-item.item-index c.item-item.result c.rename_item.new.item (omega (arith, c.loop-item.auto.items, c.loop-item-test.true)) c.loop-item.invariant c.in_ok-left.ensures.tree c.in_ok-left.ensures.left

pub rename_items-returns-clause-tree : goal.rename_items-returns-clause-tree
rename_items-returns-clause-tree t c =
    (last_step items_of item_of refl first_item (map string_bytes c.args.names.now) c.args.choices.now c.loop-item.left.now c.args.items.now c.loop-item.items c.loop-item.item-index (omega (arith, c.loop-item.auto.items, c.loop-item-test.false)) c.loop-item.invariant).0

pub rename_items-returns-clause-left : goal.rename_items-returns-clause-left
rename_items-returns-clause-left t c =
    (last_step items_of item_of refl first_item (map string_bytes c.args.names.now) c.args.choices.now c.loop-item.left.now c.args.items.now c.loop-item.items c.loop-item.item-index (omega (arith, c.loop-item.auto.items, c.loop-item-test.false)) c.loop-item.invariant).1

pub rename_node-returns-clause-tree : goal.rename_node-returns-clause-tree
rename_node-returns-clause-tree t c =
    let given = map string_bytes c.args.names.now in
    let old = c.node.inside in
    let before : parts_of c.deref_mut.result.now ≡ old.fields = ap parts_of c.deref_mut.ensures.value ∙ c.into_vec-fields.ensures ∙ c.replace.ensures.value in
    let back = written_back c.into_vec-fields.result.len c.rename_fields.new.fields c.into_vec-fields.result.items c.into_vec-fields.result.ok.0 (c.rename_fields.auto.fields ∙ ap length c.deref_mut.ensures.value) in
    rw (← c.node.view_is)
    (node_made given c.args.choices.now c.inner.result.now old.kind old.start old.end old.fields (parts_of c.rename_fields.new.fields) c.in_ok-node-inside.field-0
    c.inner.ensures
    (c.in_ok-left.ensures.tree ∙ ap (renamed given c.inner.result.now) before)
    (c.in_ok-node-inside.ensures ∙ ap (λ xs. finished old.kind given c.args.choices.now (parts_of xs)) back))

pub rename_node-returns-clause-left : goal.rename_node-returns-clause-left
rename_node-returns-clause-left t c =
    let old = c.node.inside in
    let before : parts_of c.deref_mut.result.now ≡ old.fields = ap parts_of c.deref_mut.ensures.value ∙ c.into_vec-fields.ensures ∙ c.replace.ensures.value in
    rw (← c.node.view_is)
    (node_left c.args.choices.now c.inner.result.now c.in_ok-left.left.now old.kind old.start old.end old.fields
    c.inner.ensures
    (c.in_ok-left.ensures.left ∙ ap (λ p. drop (count p) c.inner.result.now) before))
