use Rattle.std.proofs.Common.{◌≡◌, length, ap, ◌∙◌, arith}
use Rattle.std.proofs.lemmas.List.{drop-replicate}
use Rattle.oxc_data_structures.proofs.InlineStringLemmas.{IsTextOf-padded}
use Rattle.oxc_data_structures.proofs.inline_string.InlineString.from_str.Goals as goal

pub invariant_of-result : goal.invariant_of-result
invariant_of-result g c =
    let len : g.Len.UnsignedInt.number c.from_usize.result ≡ length c.args.s.now =
    ap g.Len.UnsignedInt.number c.from_usize.ensures
    ∙ g.met.Len.UnsignedInt.number_undoes_of_number _ (omega arith) in (
      rw (len, c.copy_from_slice.ensures.after, c.as_bytes.ensures.value, drop-replicate)
          (IsTextOf-padded _ _ c.requires.fits c.requires.ascii),
      c.requires.counts,
      g.met.Len.UnsignedInt.of_number_undoes_number _,
    )
