use Rattle.std.proofs.Common.{arith, sym, ◌∙◌, refl}
use Rattle.oxc_str.proofs.Pushes.{count_is_0, count_step}
use Rattle.oxc_str.proofs.Seams.{count_le}
use Rattle.oxc_str.proofs.wtf8_buffer.lone_count.Goals as goal

pub returns-then-not-has_lone_surrogate : goal.returns-then-not-has_lone_surrogate
returns-then-not-has_lone_surrogate c =
    count_is_0 _ c.args.value.canonical (sym c.has_lone_surrogate.ensures ∙ c.if-not-has_lone_surrogate.true)

pub overflow_add-count : goal.overflow_add-count
overflow_add-count c =
    let step = count_step _ _ _ c.in-Some.ensures.steps in
    let bound = count_le _ _ (record { text = c.args.value.canonical; counted = refl }) in
    omega (arith, step, bound, c.loop-c.invariant.counts, c.surrogate_count-count.ensures)
