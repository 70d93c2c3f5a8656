use Rattle.std.proofs.Common.{◌<◌, ◌≤◌, ◌∙◌, Bool, List, false, get_or, length, map, arith}
use Rattle.name_map.proofs.KeptSteps.{taken_all, taken_next, taken_past}
use Rattle.name_map.proofs.ListSteps.{lent_next, mapped_past, next_at, past_end}
use Rattle.name_map.specs.declared.spots.Pair.{Pair}
use Rattle.name_map.proofs.make.marks_taken.Goals.{else-loop-i-test, then-loop-i-test+in_default}
use Rattle.name_map.proofs.make.marks_taken.Goals as goal

abbrev marked_in : Pair → Bool
marked_in p = p.marked

pub loop-i-preserved : goal.loop-i-preserved
loop-i-preserved c =
    let within : c.loop-i.i < length c.args.after.now = c.in-Some.ensures.lookup.3.0 in (
      taken_next c.args.before.now (map marked_in c.args.after.now) c.loop-i.i c.loop-i.marks.items c.loop-i.invariant.0 (get_or c.args.before.now c.loop-i.i false) c.in-Some.pair.now.marked c.list_mark.new.marks.items
          (next_at c.args.before.now c.loop-i.i false c.loop-i-test.true)
          (lent_next marked_in c.args.after.now c.loop-i.i c.in-Some.pair.now within c.in-Some.ensures.lookup.1)
          c.in_ok-list_mark.ensures.taken,
      c.in_ok-list_mark.ensures.sized c.loop-i.invariant.1,
    )

pub returns-clause-taken : goal.returns-clause-taken
returns-clause-taken c = elim c.loop-i-test.branch [
  | else-loop-i-test w ↦
      taken_all c.args.before.now (map marked_in c.args.after.now) c.loop-i.i c.loop-i.marks.items c.loop-i.invariant.0 (past_end c.args.before.now c.loop-i.i w.loop-i-test.false)
  | then-loop-i-test+in_default w ↦
      let over : length c.args.after.now ≤ c.loop-i.i = w.in_default.ensures.lookup.3 in
      taken_past c.args.before.now (map marked_in c.args.after.now) c.loop-i.i c.loop-i.marks.items c.loop-i.invariant.0 (mapped_past marked_in c.args.after.now c.loop-i.i over)
]

pub returns-clause-sized : goal.returns-clause-sized
returns-clause-sized c = c.loop-i.invariant.1
