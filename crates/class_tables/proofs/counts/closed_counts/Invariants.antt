use Rattle.std.proofs.Common.{◌≡◌, ◌<◌, ◌≤◌, ◌*◌, ◌+◌, ℕ, length, get_or}
use Rattle.class_tables.specs.Outwards.{outer}
use Rattle.class_tables.proofs.Counting.{AreCounts}
use Rattle.class_tables.proofs.counts.closed_counts.Given as goal

abbrev pub invariant-loop-class : goal.invariant-loop-class
invariant-loop-class l = record {
  counted : AreCounts l.tables l.flags (outer l.bodies) l.counts.items l.class;
  len : length l.counts.items ≡ l.class;
  bounded : (k : ℕ) → k < l.class → get_or l.counts.items k 0 ≤ 4294967296 * (k + 1);
}
