use Rattle.std.proofs.Common.{◌<◌, ◌≤◌, length}
use Rattle.oxc_str.proofs.Backwards.{last_lead}
use Rattle.oxc_str.proofs.js_chars.last_start.Given as goal

abbrev pub invariant-loop-start : goal.invariant-loop-start
invariant-loop-start l = record { low : last_lead l.bytes ≤ l.start; high : l.start < length l.bytes }

abbrev pub decreases-loop-start : goal.decreases-loop-start
decreases-loop-start l = l.start
