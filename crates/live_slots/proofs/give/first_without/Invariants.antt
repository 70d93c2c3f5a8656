use Rattle.std.proofs.Common.{◌≡◌, ◌<◌, ◌≤◌, ◌-◌, ℕ, [], true, false, get_or, length}
use Rattle.live_slots.proofs.give.first_without.Given as goal

abbrev pub invariant-loop-slot : goal.invariant-loop-slot
invariant-loop-slot g l = record { low : l.from ≤ l.slot; high : l.slot ≤ length l.marks; skipped : (j : ℕ) → l.from ≤ j → j < l.slot → get_or (get_or l.marks j []) l.home false ≡ true }

abbrev pub decreases-loop-slot : goal.decreases-loop-slot
decreases-loop-slot g l = length l.marks - l.slot
