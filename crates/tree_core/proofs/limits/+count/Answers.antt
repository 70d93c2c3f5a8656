use Rattle.std.proofs.Common.{arith}
use Rattle.tree_core.proofs.ObjectCounts.{long_array-length, items_counted, members_counted}
use Rattle.tree_core.proofs.limits.+count.Goals as goal

pub item_objects-returns-then-len-ge-ITEMS : goal.item_objects-returns-then-len-ge-ITEMS
item_objects-returns-then-len-ge-ITEMS t c = long_array-length c.args.items.now.items _ _ (omega arith)

pub item_objects-returns : goal.item_objects-returns
item_objects-returns t c =
    rw (← c.deref-item-items.ensures.value)
    (items_counted c.deref-item-items.result.now c.loop-item.sum c.loop-item.item-index (omega arith) c.loop-item-test.false c.loop-item.invariant.0 c.loop-item.invariant.1)

pub member_objects-returns : goal.member_objects-returns
member_objects-returns t c = members_counted c.args.members.now.entries c.loop-key.key-iterator c.loop-key.sum c.in-None.ensures.steps.0 c.loop-key.invariant.0 c.loop-key.invariant.1
