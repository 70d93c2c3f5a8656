use Rattle.std.proofs.Common.{◌≤◌, ◌∙◌, Some, ap, sym}
use Rattle.tree_nodes.specs.Look.{parts_len}
use Rattle.tree_nodes.proofs.Lists.{past_items, past_len}
use Rattle.place_list.proofs.LeadingDirectives.{passed, found, ended, none_left}
use Rattle.place_list.proofs.directives.directs.Goals as goal

pub returns-in-Some-true : goal.returns-in-Some-true
returns-in-Some-true c =
    found c.args.items.now c.loop-i.i c.loop-i.invariant c.in-Some.item.now c.len-i-end.ensures.shaped c.in-Some.ensures.item
    (ap Some (sym c.in-Some-true.field-0-test) ∙ c.in-Some-true.ensures)

pub returns-in-None : goal.returns-in-None
returns-in-None c =
    ended c.args.items.now c.loop-i.i c.loop-i.invariant c.in-Some.item.now c.len-i-end.ensures.shaped c.in-Some.ensures.item c.in-None.ensures

pub loop-i-preserved : goal.loop-i-preserved
loop-i-preserved c =
    passed c.args.items.now c.loop-i.i c.loop-i.invariant c.in-Some.item.now c.len-i-end.ensures.shaped c.in-Some.ensures.item
    (ap Some (sym c.in-Some-false.field-0-test) ∙ c.in-Some-false.ensures)

pub returns-after-loop-i : goal.returns-after-loop-i
returns-after-loop-i c =
    let items = c.args.items.now in
    let over : parts_len items ≤ c.loop-i.i = rw (← c.len-i-end.ensures.len) c.loop-i-test.false in
    none_left items c.loop-i.i c.loop-i.invariant (past_len items c.loop-i.i over)

pub returns-in_default : goal.returns-in_default
returns-in_default c =
    let items = c.args.items.now in
    none_left items c.loop-i.i c.loop-i.invariant (past_items items c.loop-i.i (sym c.in_default.ensures.item))
