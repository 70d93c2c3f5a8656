use Rattle.std.proofs.Common.{◌∙◌, arith, sym}
use Rattle.live_slots.proofs.OfTrees.{no_one}
use Rattle.live_slots.proofs.SlotsByNode.{busiest_further, busiest_here, busiest_nowhere}
use Rattle.live_slots.proofs.busiest.busiest.Goals as goal

pub returns-then-is_last : goal.returns-then-is_last
returns-then-is_last c = busiest_here c.args.leaders.now c.args.slots.now c.args.count c.loop-group.group no_one c.requires (omega (arith, c.loop-group-test.true)) c.loop-group.invariant (sym c.is_last.ensures ∙ c.if-is_last.true)

pub loop-group-preserved : goal.loop-group-preserved
loop-group-preserved c = busiest_further c.args.leaders.now c.args.slots.now c.args.count c.loop-group.group no_one c.requires (omega (arith, c.loop-group-test.true)) c.loop-group.invariant (sym c.is_last.ensures ∙ c.if-is_last.false)

pub returns : goal.returns
returns c = busiest_nowhere c.args.leaders.now c.args.slots.now c.args.count c.loop-group.group c.requires (omega (arith, c.loop-group-test.false)) c.loop-group.invariant
