use Rattle.std.proofs.Common.{◌≡◌, ◌-◌, ◌≤◌}
use Rattle.arena_core.specs.BitSet.{members_at}
use Rattle.arena_core.specs.Words.{flags}
use Rattle.arena_core.proofs.bit_set.next_member.Given as goal

abbrev pub invariant-loop-at : goal.invariant-loop-at
invariant-loop-at l = (l.at ≤ l.len) × (members_at l.at (flags l.words l.len) ≡ members_at l.initial.at (flags l.words l.len))

abbrev pub decreases-loop-at : goal.decreases-loop-at
decreases-loop-at l = l.len - l.at
