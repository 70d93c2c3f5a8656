use Rattle.std.proofs.Common.{◌≡◌, ◌++◌, replicate}
use Rattle.scope_report.proofs.positions.push_times.Given as goal

abbrev pub invariant-loop-i : goal.invariant-loop-i
invariant-loop-i l = l.positions.items ≡ l.fn.positions.items ++ replicate l._i l.position
