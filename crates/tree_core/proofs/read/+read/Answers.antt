use Rattle.std.proofs.Common.{◌≡◌, ◌≤◌, [], ◌∷◌, ◌++◌, ap, ◌∙◌, arith, rules}
use Rattle.serde_json.specs.Data.{depth, items_depth}
use Rattle.serde_json.specs.View.{view, items_view, members_view}
use Rattle.tree_core.specs.JsonOf as json
use Rattle.tree_core.specs.Reading.{find_member}
use Rattle.tree_nodes.specs.Rows.{column_of}
use Rattle.tree_core.proofs.FieldUnderKey.{part_in-found, part_in-missing}
use Rattle.tree_core.proofs.ReadSoFar.{readable_at, item_falls, items_read, items_next, fields_read, fields_next}
use Rattle.tree_core.proofs.read.+read.Goals as goal

pub read_fields-read_member-requires : goal.read_fields-read_member-requires
read_fields-read_member-requires t c = (omega (arith, c.decreases), readable_at c.args.columns.now c.loop-column.column-index _ c.loop-column-test.true c.requires)

pub read_fields-loop-column-preserved : goal.read_fields-loop-column-preserved
read_fields-loop-column-preserved t c =
    let pushed : c.push.new.self.items ≡ c.loop-column.fields.items ++ c.in_ok-read_member.field-0 ∷ [] = search rules in
    rw pushed
    (fields_next (json.members_of (members_view c.args.members.now.entries)) c.args.columns.now c.loop-column.fields.items c.loop-column.column-index c.loop-column.invariant _ c.in_ok-read_member.field-0 c.loop-column-test.true c.in_ok-read_member.ensures.ok)

pub read_fields-returns-clause-ok : goal.read_fields-returns-clause-ok
read_fields-returns-clause-ok t c =
    fields_read (json.members_of (members_view c.args.members.now.entries)) c.args.columns.now c.loop-column.fields.items c.loop-column.column-index c.loop-column.invariant c.loop-column-test.false

pub read_items-read_item-requires : goal.read_items-read_item-requires
read_items-read_item-requires t c =
    let inside : depth (view c.item-item.result) ≤ items_depth (items_view c.deref-item-items.result.now) =
    item_falls c.deref-item-items.result.now c.loop-item.item-index c.item-item.result c.item-item.is c.loop-item-test.true in
    let here : depth (view c.item-item.result) ≤ items_depth (items_view c.args.items.now.items) = rw (← c.deref-item-items.ensures.value) inside in
    (omega (arith, c.decreases), tt)

pub read_items-loop-item-preserved : goal.read_items-loop-item-preserved
read_items-loop-item-preserved t c =
    let pushed : c.push.new.self.items ≡ c.loop-item.nodes.items ++ c.in_ok-read_item.field-0 ∷ [] = search rules in
    rw pushed
    (items_next c.deref-item-items.result.now c.args.holes c.loop-item.nodes.items c.loop-item.item-index c.loop-item.invariant c.item-item.result c.in_ok-read_item.field-0 c.loop-item-test.true c.item-item.is c.in_ok-read_item.ensures.ok)

pub read_items-returns-clause-ok : goal.read_items-returns-clause-ok
read_items-returns-clause-ok t c =
    rw (← c.deref-item-items.ensures.value)
    (items_read c.deref-item-items.result.now c.args.holes c.loop-item.nodes.items c.loop-item.item-index c.loop-item.invariant c.loop-item-test.false)

pub read_member-returns-in-Some : goal.read_member-returns-in-Some
read_member-returns-in-Some t c =
    let ms = json.members_of (members_view c.args.members.now.entries) in
    let e = part_in-found ms (column_of c.args.column.now) _ (c.in-Some.ensures.found ∙ ap (λ k. find_member k ms) c.outer_key.ensures) in
    record { ok = rw e c.read_part.ensures.ok; err = rw e c.read_part.ensures.err }

pub read_member-returns-in-None : goal.read_member-returns-in-None
read_member-returns-in-None t c =
    let ms = json.members_of (members_view c.args.members.now.entries) in
    let e = part_in-missing ms (column_of c.args.column.now) (c.in-None.ensures.found ∙ ap (λ k. find_member k ms) c.outer_key.ensures) in
    record { ok = rw e c.absent.ensures.ok; err = rw e c.absent.ensures.err }
