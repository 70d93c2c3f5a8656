use Rattle.std.proofs.Common.{◌≡◌, ◌+◌, ◌-◌, ◌≤◌, length, drop}
use Rattle.std.specs.List.{position_or_len}
use Rattle.oxc_estree.specs.Escapes.{needs_escape}
use Rattle.oxc_estree.proofs.scan.plain_end.Given as goal

abbrev pub invariant-loop-word : goal.invariant-loop-word
invariant-loop-word l = record {
  same : l.from + position_or_len needs_escape (drop l.from l.bytes) ≡ l.at + position_or_len needs_escape (drop l.at l.bytes);
  within : l.at ≤ length l.bytes;
}

abbrev pub decreases-loop-word : goal.decreases-loop-word
decreases-loop-word l = length l.bytes - l.at
