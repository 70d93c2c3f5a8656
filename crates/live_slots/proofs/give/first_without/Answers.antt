use Rattle.std.proofs.Common.{[], List, Bool, ap, false, get_or, refl, sym, ◌∙◌}
use Rattle.std.proofs.lemmas.Bool.{both_ways}
use Rattle.std.proofs.lemmas.List.{get_or_read}
use Rattle.scope_marks.proofs.StepsOutwards.{bit_off}
use Rattle.live_slots.proofs.give.first_without.Goals as goal

pub returns-else-has_bit-clause-free : goal.returns-else-has_bit-clause-free
returns-else-has_bit-clause-free g c =
    ap (λ (bits : List Bool). get_or bits c.args.home false) (sym (get_or_read c.args.marks.now c.loop-slot.slot c.index-marks-slot.result c.loop-slot-test.true c.index-marks-slot.is []))
    ∙ bit_off c.index-marks-slot.result c.args.home (λ h. both_ways false refl (c.if-has_bit.ensures.1 h))
