use Rattle.std.proofs.Common.{◌<◌, ℕ, Option, false, refl, subst, sym}
use Rattle.std.proofs.lemmas.Bool.{both_ways}
use Rattle.place_list.proofs.OutwardWalks.{how_far, nearer}
use Rattle.scope_marks.proofs.StepsOutwards.{Rest, bit_off, bit_read, rest_done, rest_marked, rest_step}
use Rattle.scope_marks.proofs.marks.mark_outwards.Goals as goal

pub loop-next-init : goal.loop-next-init
loop-next-init g c = record { room = c.requires.room; inside = c.requires.scope; left = refl }

pub loop-next-smaller : goal.loop-next-smaller
loop-next-smaller g c = subst (λ (o : Option ℕ). how_far c.parent-next.result < how_far o) (sym c.in-Some.is) (nearer c.in-Some.number c.parent-next.result c.parent-next.ensures.below)

pub loop-next-preserved : goal.loop-next-preserved
loop-next-preserved g c =
    rest_step c.args.list.now c.args.bits.now c.loop-next.bits c.args.scope c.in-Some.number (subst (Rest c.args.list.now c.args.bits.now c.args.scope c.loop-next.bits) c.in-Some.is c.loop-next.invariant)
    c.set_bit.new.self c.parent-next.result (bit_off c.loop-next.bits c.in-Some.number (λ h. both_ways false refl (c.if-has_bit.ensures.1 h))) c.set_bit.ensures c.parent-next.ensures.outwards c.parent-next.ensures.below

pub returns-then-has_bit : goal.returns-then-has_bit
returns-then-has_bit g c =
    rest_marked c.args.list.now c.args.bits.now c.loop-next.bits c.args.scope c.in-Some.number (subst (Rest c.args.list.now c.args.bits.now c.args.scope c.loop-next.bits) c.in-Some.is c.loop-next.invariant)
    (bit_read c.loop-next.bits c.in-Some.number (c.if-has_bit.ensures.0 refl))

pub returns-in_default : goal.returns-in_default
returns-in_default g c = rest_done c.args.list.now c.args.bits.now c.loop-next.bits c.args.scope (subst (Rest c.args.list.now c.args.bits.now c.args.scope c.loop-next.bits) c.in_default.is c.loop-next.invariant)
