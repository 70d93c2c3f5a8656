use Rattle.std.proofs.Common.{length}
use Rattle.std.specs.Str.Iter.{chars_rest}
use Rattle.scope_report.proofs.PositionSteps.{IsWalked}
use Rattle.scope_report.proofs.positions.positions.Given as goal

abbrev pub invariant-loop-ch : goal.invariant-loop-ch
invariant-loop-ch l = IsWalked l.text l.positions.items l.at (chars_rest l.chars)

abbrev pub decreases-loop-ch : goal.decreases-loop-ch
decreases-loop-ch l = length (chars_rest l.chars)
