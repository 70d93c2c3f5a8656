use Rattle.std.proofs.Common.{◌≡◌, ◌+◌, length, sym, ap, ◌∙◌, arith}
use Rattle.oxc_data_structures.proofs.InlineStringLemmas.{IsTextOf-push}
use Rattle.oxc_data_structures.specs.InlineString.{length-front}
use Rattle.oxc_data_structures.proofs.inline_string.InlineString.push.Goals as goal

pub invariant_of-self : goal.invariant_of-self
invariant_of-self g c =
    let old_len : length c.args.self.now ≡ c.to_usize-len.result =
    ap length (sym c.self.view_is) ∙ length-front _ _ _ c.self.invariant.0 ∙ sym c.to_usize-len.ensures.number in
    let new_len : g.Len.UnsignedInt.number c.from_usize-self-inside.result ≡ c.to_usize-len.result + 1 =
    ap g.Len.UnsignedInt.number c.from_usize-self-inside.ensures
    ∙ g.met.Len.UnsignedInt.number_undoes_of_number _ (omega (arith, c.self.invariant.1)) in (
      rw new_len
          (IsTextOf-push _ _ _ _ (rw c.to_usize-len.ensures.number c.self.invariant.0) (omega arith) c.requires.ascii),
      c.self.invariant.1,
      g.met.Len.UnsignedInt.of_number_undoes_number _,
    )
