use Rattle.std.specs.Prelude.{false}
use Rattle.std.proofs.Common.{arith}
use Rattle.std.proofs.lemmas.List.{ext_get_or}
use Rattle.kept_names.proofs.symbols.set_of.Goals as goal

pub returns : goal.returns
returns g c =
    let inv = c.loop-i.invariant in
    ext_get_or false c.loop-i.bits c.args.flags.now inv.room (λ k h. inv.told k (omega (arith, h, inv.room, c.loop-i-test.false)))
