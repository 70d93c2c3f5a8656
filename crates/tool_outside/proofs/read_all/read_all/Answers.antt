use Rattle.std.proofs.Common.{ℕ, arith, length-append}
use Rattle.std.proofs.KnownBytes.{Consumes-trans}
use Rattle.tool_outside.proofs.ToldBytes.{consumed_bytes_are_lost}
use Rattle.tool_outside.proofs.read_all.read_all.Goals as goal

pub returns-then-count-limit-clause-rest : goal.returns-then-count-limit-clause-rest
returns-then-count-limit-clause-rest g c =
    consumed_bytes_are_lost _ _ _ _
    (Consumes-trans _ _ _ _ _ c.loop-bytes.invariant.consumed c.in_ok-count.ensures.bytes.0)
    (omega (arith, length-append {A = ℕ}, c.in_ok-count.ensures.bound, c.in_ok-count.ensures.given))
