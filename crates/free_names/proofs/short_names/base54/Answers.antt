use Rattle.std.proofs.Common.{◌-◌, arith}
use Rattle.name_rules.proofs.Characters.{end_told, room_left, start_is_told, step_told}
use Rattle.free_names.proofs.short_names.base54.Goals as goal

pub loop-left-init : goal.loop-left-init
loop-left-init c = start_is_told c.args.n _ _ _ c.new-name.ensures c.character.ensures.is c.push.ensures

pub push-requires-in-loop-left : goal.push-requires-in-loop-left
push-requires-in-loop-left c = (omega arith, (c.character-in-loop-left.ensures.ascii, room_left c.args.n c.loop-left.left c.loop-left.name c.ranges.n.fits c.loop-left.invariant))

pub loop-left-preserved : goal.loop-left-preserved
loop-left-preserved c = step_told c.args.n c.loop-left.left (c.loop-left.left - 1) _ c.loop-left.name _ (omega (arith, c.loop-left-test.true)) c.loop-left.invariant c.character-in-loop-left.ensures.is c.push-in-loop-left.ensures

pub returns : goal.returns
returns c = end_told c.args.n c.loop-left.left c.loop-left.name (omega (arith, c.loop-left-test.false)) c.loop-left.invariant
