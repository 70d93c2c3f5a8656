use Rattle.std.proofs.Common.{◌≡◌, ◌+◌, ◌-◌, ◌≤◌, length, drop}
use Rattle.std.specs.List.{position_or_len}
use Rattle.oxc_estree.specs.Escapes.{needs_escape}
use Rattle.oxc_estree.proofs.scan.plain_end_by_bytes.Given as goal

abbrev pub invariant-loop-at : goal.invariant-loop-at
invariant-loop-at l = record {
  same : l.from + position_or_len needs_escape (drop l.from l.bytes) ≡ l.at + position_or_len needs_escape (drop l.at l.bytes);
  within : l.at ≤ length l.bytes;
}

abbrev pub decreases-loop-at : goal.decreases-loop-at
decreases-loop-at l = length l.bytes - l.at
