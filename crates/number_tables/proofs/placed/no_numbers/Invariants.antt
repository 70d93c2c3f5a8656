use Rattle.std.proofs.Common.{◌≡◌, ℕ, None, length, get_or}
use Rattle.number_tables.proofs.placed.no_numbers.Given as goal

abbrev pub invariant-loop : goal.invariant-loop
invariant-loop l = record { none : (n : ℕ) → get_or l.row.items n None ≡ None; len : length l.row.items ≡ l.counter }
