use Rattle.std.proofs.Common.{◌<◌, ◌≤◌, ◌∙◌, false, get_or, length, sym, arith}
use Rattle.name_map.proofs.KeptSteps.{marks_all, marks_next, marks_not, marks_over}
use Rattle.name_map.proofs.ListSteps.{lent_item, next_at, past_end}
use Rattle.name_map.proofs.make.keeps_marks.Goals as goal

pub returns-then-not-is_mark : goal.returns-then-not-is_mark
returns-then-not-is_mark c =
    let within : c.loop-i.i < length c.args.after.now = c.in-Some.ensures.lookup.3.0 in
    marks_not c.args.before.now c.args.after.now c.loop-i.i c.loop-i.invariant (get_or c.args.before.now c.loop-i.i false) c.in-Some.pair.now
    (next_at c.args.before.now c.loop-i.i false c.loop-i-test.true) (lent_item c.args.after.now c.loop-i.i c.in-Some.pair.now within c.in-Some.ensures.lookup.1)
    (sym c.is_mark.ensures ∙ c.if-not-is_mark.true)

pub loop-i-preserved : goal.loop-i-preserved
loop-i-preserved c =
    let within : c.loop-i.i < length c.args.after.now = c.in-Some.ensures.lookup.3.0 in
    marks_next c.args.before.now c.args.after.now c.loop-i.i c.loop-i.invariant (get_or c.args.before.now c.loop-i.i false) c.in-Some.pair.now
    (next_at c.args.before.now c.loop-i.i false c.loop-i-test.true) (lent_item c.args.after.now c.loop-i.i c.in-Some.pair.now within c.in-Some.ensures.lookup.1)
    (sym c.is_mark.ensures ∙ c.if-not-is_mark.false)

pub returns-after-loop-i : goal.returns-after-loop-i
returns-after-loop-i c = marks_all c.args.before.now c.args.after.now c.loop-i.i c.loop-i.invariant (past_end c.args.before.now c.loop-i.i c.loop-i-test.false)

pub returns-in_default : goal.returns-in_default
returns-in_default c =
    let over : length c.args.after.now ≤ c.loop-i.i = c.in_default.ensures.lookup.3 in
    marks_over c.args.before.now c.args.after.now c.loop-i.i c.loop-i.invariant (past_end c.args.after.now c.loop-i.i over)
