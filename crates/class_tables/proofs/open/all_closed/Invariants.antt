use Rattle.std.proofs.Common.{◌≡◌, ℕ, false, length, get_or}
use Rattle.class_tables.proofs.open.all_closed.Given as goal

abbrev pub invariant-loop : goal.invariant-loop
invariant-loop l = record { closed : (c : ℕ) → get_or l.open.items c false ≡ false; len : length l.open.items ≡ l.index }
