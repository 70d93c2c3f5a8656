use Rattle.std.proofs.Common.{◌≤◌}
use Rattle.class_tables.specs.PrivateTables.{list_in}
use Rattle.name_rules.specs.PrivateNumbers.{open_names}
use Rattle.place_list.specs.TableViews.{classes_at, places_in}
use Rattle.private_numbers.proofs.Passing.{IsPassed}
use Rattle.private_numbers.proofs.class_numbers.unlisted.Given as goal

abbrev pub invariant-loop-number : goal.invariant-loop-number
invariant-loop-number l = record {
  passed : IsPassed (open_names (places_in (list_in l.table)) (classes_at (list_in l.table) l.outwards)) l.first l.number l.passed l.numbers.items;
  below : l.passed ≤ l.end;
}
