use Rattle.std.proofs.Common.{◌≡◌, ◌<◌, ◌||◌, ℕ, false, length, get_or}
use Rattle.std.specs.Prelude.{IfSome}
use Rattle.scope_rules.specs.Evals.{contains}
use Rattle.class_tables.specs.Outwards.{chain_from, outer}
use Rattle.class_tables.proofs.Outward.{left_of}
use Rattle.class_tables.proofs.open.mark.Given as goal

-- what is open, and what is to be opened, stays the same
abbrev pub invariant-loop-at : goal.invariant-loop-at
invariant-loop-at l = record {
  below : IfSome l.at (λ c. c < length l.flags);
  len : length l.flags ≡ length l.fn.flags;
  marked : (k : ℕ) → k < length l.flags → (get_or l.flags k false || contains (chain_from (outer l.bodies) l.at) k) ≡ (get_or l.fn.flags k false || contains (chain_from (outer l.bodies) l.fn.class) k);
}

abbrev pub decreases-loop-at : goal.decreases-loop-at
decreases-loop-at l = left_of l.at
