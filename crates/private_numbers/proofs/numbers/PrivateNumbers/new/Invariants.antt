use Rattle.std.proofs.Common.{◌≡◌, ◌<◌, ℕ, length}
use Rattle.class_tables.specs.PrivateTables.{list_in}
use Rattle.private_numbers.specs.AllNumbers.{numbers_at}
use Rattle.private_numbers.specs.Numbers.{AreClassNumbers}
use Rattle.private_numbers.proofs.numbers.PrivateNumbers.new.Given as goal

abbrev pub invariant-loop-class_body : goal.invariant-loop-class_body
invariant-loop-class_body l = record {
  many : length l.classes.items ≡ l.class_body;
  each : (c : ℕ) → c < l.class_body → AreClassNumbers (list_in l.table) c (numbers_at l.classes.items c);
}
