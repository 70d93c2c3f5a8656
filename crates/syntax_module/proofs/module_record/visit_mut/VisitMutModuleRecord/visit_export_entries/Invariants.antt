use Rattle.std.proofs.Common.{◌≡◌, length}
use Rattle.syntax_module.proofs.Visits.{visited_from}
use Rattle.syntax_module.specs.Visits.{on_each, on_export_entry}
use Rattle.syntax_module.proofs.module_record.visit_mut.VisitMutModuleRecord.visit_export_entries.Given as goal

abbrev pub invariant-loop-i : goal.invariant-loop-i
invariant-loop-i g l =
    (length l.export_entries ≡ length l.initial.export_entries)
    × (on_each (on_export_entry g.Self.VisitMutModuleRecord.step) l.initial.self l.initial.export_entries ≡ visited_from (on_export_entry g.Self.VisitMutModuleRecord.step) l.i l.self l.export_entries)
