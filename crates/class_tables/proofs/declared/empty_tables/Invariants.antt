use Rattle.std.proofs.Common.{◌≡◌, length}
use Rattle.class_tables.proofs.Holding.{AreEmpty}
use Rattle.class_tables.proofs.declared.empty_tables.Given as goal

abbrev pub invariant-loop : goal.invariant-loop
invariant-loop l = record { empty : AreEmpty l.tables.items; len : length l.tables.items ≡ l.index }
