use Rattle.std.proofs.Common.{◌^◌, arith}
use Rattle.name_map.proofs.KeptSteps.{pushed_all}
use Rattle.name_map.specs.Undoing.{IsOldName, old_name}
use Rattle.name_map.proofs.make.list_name.Goals as goal

pub returns-clause-sized : goal.returns-clause-sized
returns-clause-sized c =
    pushed_all IsOldName c.push.result c.args.names.now c.push.new.self (old_name c.args.i c.args.before.now) c.push.ensures.ok (omega (arith, c.if-i-gt4294967295.false), c.utf8.before)
