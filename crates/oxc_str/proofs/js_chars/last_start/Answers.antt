use Rattle.std.proofs.Common.{inl, inr, arith}
use Rattle.oxc_str.proofs.Backwards.{ending, goes_on, begins_here}
use Rattle.oxc_str.proofs.js_chars.last_start.Goals as goal

pub loop-start-init : goal.loop-start-init
loop-start-init c =
    let within = (ending c.args.bytes.now c.requires.text c.requires.some).is.within in
    record { low = omega (arith, within); high = omega arith }

pub overflow_sub-start-in-loop-start : goal.overflow_sub-start-in-loop-start
overflow_sub-start-in-loop-start c =
    let more = goes_on _ _ c.requires.text c.requires.some c.loop-start.invariant.low (omega arith) (omega arith) in
    omega (arith, more)

pub loop-start-smaller : goal.loop-start-smaller
loop-start-smaller c =
    let more = goes_on _ _ c.requires.text c.requires.some c.loop-start.invariant.low (omega arith) (omega arith) in
    omega (arith, more)

pub loop-start-preserved : goal.loop-start-preserved
loop-start-preserved c =
    let more = goes_on _ _ c.requires.text c.requires.some c.loop-start.invariant.low (omega arith) (omega arith) in
    record { low = omega (arith, more); high = omega (arith, c.loop-start.invariant.high) }

pub returns-else-bytes-start-lt-TWO_BYTE_TAG : goal.returns-else-bytes-start-lt-TWO_BYTE_TAG
returns-else-bytes-start-lt-TWO_BYTE_TAG c =
    begins_here _ _ c.requires.text c.requires.some c.loop-start.invariant.low c.loop-start.invariant.high (inr (omega arith))

pub returns-after-loop-start : goal.returns-after-loop-start
returns-after-loop-start c =
    begins_here _ _ c.requires.text c.requires.some c.loop-start.invariant.low c.loop-start.invariant.high (inl (omega arith))
