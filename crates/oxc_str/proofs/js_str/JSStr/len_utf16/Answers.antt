use Rattle.std.proofs.Common.{arith}
use Rattle.oxc_str.proofs.Lengths.{units_step, units_le}
use Rattle.oxc_str.proofs.js_str.JSStr.len_utf16.Goals as goal

pub overflow_add-len : goal.overflow_add-len
overflow_add-len c =
    let step = units_step _ _ _ c.in-Some.ensures.steps in
    let bound = units_le _ c.args.self.canonical in
    omega (arith, step, bound, c.loop-c.invariant.counts, c.len_utf16-len.ensures)
