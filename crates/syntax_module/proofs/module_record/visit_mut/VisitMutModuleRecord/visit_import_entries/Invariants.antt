use Rattle.std.proofs.Common.{◌≡◌, length}
use Rattle.syntax_module.proofs.Visits.{visited_from}
use Rattle.syntax_module.specs.Visits.{on_each, on_import_entry}
use Rattle.syntax_module.proofs.module_record.visit_mut.VisitMutModuleRecord.visit_import_entries.Given as goal

abbrev pub invariant-loop-i : goal.invariant-loop-i
invariant-loop-i g l =
    (length l.import_entries ≡ length l.initial.import_entries)
    × (on_each (on_import_entry g.Self.VisitMutModuleRecord.step) l.initial.self l.initial.import_entries ≡ visited_from (on_import_entry g.Self.VisitMutModuleRecord.step) l.i l.self l.import_entries)
