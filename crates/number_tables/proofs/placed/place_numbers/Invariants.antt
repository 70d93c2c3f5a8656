use Rattle.std.proofs.Common.{◌≡◌, ℕ, None, length, get_or, take}
use Rattle.number_tables.specs.PlacedNumbers.{number_at}
use Rattle.number_tables.proofs.placed.place_numbers.Given as goal

abbrev pub invariant-loop-i : goal.invariant-loop-i
invariant-loop-i l = record { numbers : (n : ℕ) → get_or l.row.items n None ≡ number_at n (take l.i l.indices) (take l.i l.numbers); len : length l.row.items ≡ l.count }
