use Rattle.std.specs.Prelude.{◌≡◌, ℕ, take}
use Rattle.std.specs.List.{list_any}
use Rattle.place_list.specs.TableViews.{places_in}
use Rattle.scope_report.specs.Rules.{uses}
use Rattle.scope_tables.specs.Sets.{has}
use Rattle.scope_rules.specs.Bindings.{bound, same_name}
use Rattle.scope_report.proofs.used.used_bindings.Given as goal

abbrev pub invariant-loop-i : goal.invariant-loop-i
invariant-loop-i l = (n : ℕ) → has l.used n ≡ list_any (uses n) (take l.i (bound same_name (places_in l.tables.list)))
