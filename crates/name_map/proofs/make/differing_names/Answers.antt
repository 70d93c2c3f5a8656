use Rattle.std.proofs.Common.{◌<◌, ◌≤◌, ◌∙◌, ℕ, List, Bor, length, map, arith}
use Rattle.name_map.proofs.KeptSteps.{differing_all, differing_next, differing_past}
use Rattle.name_map.proofs.ListSteps.{lent_next, mapped_past}
use Rattle.name_map.proofs.make.differing_names.Goals.{else-loop-i-test, then-loop-i-test+in_default, then-loop-i-test+in-Some+in_default-get}
use Rattle.name_map.proofs.make.differing_names.Goals as goal

abbrev now_of : Bor (List ℕ) → List ℕ
now_of x = x.now

abbrev texts : List (Bor (List ℕ)) → List (List ℕ)
texts xs = map now_of xs

pub loop-i-preserved : goal.loop-i-preserved
loop-i-preserved c =
    let x = c.in-Some.x.now in
    let y = c.in-Some-get.y.now in
    let below : c.loop-i.i < length c.args.before.now = c.loop-i-test.true in
    let within : c.loop-i.i < length c.args.after.now = c.in-Some-get.ensures.lookup.3.0 in (
      differing_next (texts c.args.before.now) (texts c.args.after.now) c.loop-i.i c.loop-i.names c.loop-i.invariant.0 x.now y.now c.list_name.new.names
          (lent_next now_of c.args.before.now c.loop-i.i x below c.in-Some.ensures.lookup.1)
          (lent_next now_of c.args.after.now c.loop-i.i y within c.in-Some-get.ensures.lookup.1)
          c.in_ok-list_name.ensures.names,
      c.in_ok-list_name.ensures.sized c.loop-i.invariant.1,
    )

pub returns-clause-names : goal.returns-clause-names
returns-clause-names c = elim c.loop-i-test.branch [
  | else-loop-i-test w ↦
      differing_all (texts c.args.before.now) (texts c.args.after.now) c.loop-i.i c.loop-i.names c.loop-i.invariant.0 (mapped_past now_of c.args.before.now c.loop-i.i w.loop-i-test.false)
  | then-loop-i-test+in_default w ↦
      let over : length c.args.before.now ≤ c.loop-i.i = w.in_default.ensures.lookup.3 in
      differing_all (texts c.args.before.now) (texts c.args.after.now) c.loop-i.i c.loop-i.names c.loop-i.invariant.0 (mapped_past now_of c.args.before.now c.loop-i.i over)
  | then-loop-i-test+in-Some+in_default-get w ↦
      let over : length c.args.after.now ≤ c.loop-i.i = w.in_default-get.ensures.lookup.3 in
      differing_past (texts c.args.before.now) (texts c.args.after.now) c.loop-i.i c.loop-i.names c.loop-i.invariant.0 (mapped_past now_of c.args.after.now c.loop-i.i over)
]

pub returns-clause-sized : goal.returns-clause-sized
returns-clause-sized c = c.loop-i.invariant.1
