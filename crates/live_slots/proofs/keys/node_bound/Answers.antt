use Rattle.std.proofs.Common.{List, ℕ, Option, None, subst, take_all}
use Rattle.std.specs.List.{AllByRecursion}
use Rattle.live_slots.proofs.GroupsOfPlaces.{bound_more}
use Rattle.place_list.specs.Bounds.{IsBelow}
use Rattle.live_slots.proofs.keys.node_bound.Goals as goal

pub loop-group-preserved : goal.loop-group-preserved
loop-group-preserved c = bound_more c.args.groups.now c.loop-group.group-index c.loop-group.bound c.above-bound.result None c.loop-group-test.true c.above-bound.ensures.bound c.above-bound.ensures.group c.loop-group.invariant

pub returns : goal.returns
returns c =
    let P : List (Option ℕ) → Type 0 = AllByRecursion (IsBelow c.loop-group.bound) in
    subst P (take_all c.loop-group.group-index c.args.groups.now c.loop-group-test.false) c.loop-group.invariant
