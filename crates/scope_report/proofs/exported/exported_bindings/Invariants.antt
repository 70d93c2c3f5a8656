use Rattle.std.specs.Prelude.{◌≡◌, ℕ, take}
use Rattle.std.specs.List.{list_any}
use Rattle.place_list.specs.TableViews.{nested_nodes_in, places_in}
use Rattle.scope_report.specs.Exports.{exports}
use Rattle.scope_tables.specs.Sets.{has}
use Rattle.scope_rules.specs.Bindings.{bound, same_name}
use Rattle.scope_report.proofs.exported.exported_bindings.Given as goal

abbrev pub invariant-loop-i : goal.invariant-loop-i
invariant-loop-i l = (n : ℕ) → has l.exported n ≡ list_any (exports (nested_nodes_in l.nodes) n) (take l.i (bound same_name (places_in l.tables.list)))
