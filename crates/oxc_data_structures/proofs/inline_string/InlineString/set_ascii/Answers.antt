use Rattle.std.proofs.Common.{◌≡◌, length, set, sym, ap, ◌∙◌, arith}
use Rattle.std.proofs.Math.Seq.{take-set-lt}
use Rattle.oxc_data_structures.proofs.InlineStringLemmas.{IsTextOf-set}
use Rattle.oxc_data_structures.specs.InlineString.{length-front}
use Rattle.oxc_data_structures.proofs.inline_string.InlineString.set_ascii.Goals as goal

pub invariant_of-self : goal.invariant_of-self
invariant_of-self g c =
    let len : length c.args.self.now ≡ g.Len.UnsignedInt.number c.self.inside.len =
    ap length (sym c.self.view_is) ∙ length-front _ _ _ c.self.invariant.0 in (
      IsTextOf-set _ _ _ _ _ c.self.invariant.0 (omega arith) c.requires.ascii,
      c.self.invariant.1,
      c.self.invariant.2,
    )

pub returns : goal.returns
returns g c =
    let len : length c.args.self.now ≡ g.Len.UnsignedInt.number c.self.inside.len =
    ap length (sym c.self.view_is) ∙ length-front _ _ _ c.self.invariant.0 in
    take-set-lt _ _ _ _ (omega arith) ∙ ap (λ t. set t c.args.index c.args.byte) c.self.view_is
