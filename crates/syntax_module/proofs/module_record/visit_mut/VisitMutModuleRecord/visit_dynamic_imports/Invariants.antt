use Rattle.std.proofs.Common.{◌≡◌, length}
use Rattle.syntax_module.proofs.Visits.{visited_from}
use Rattle.syntax_module.specs.Visits.{on_each, on_dynamic_import}
use Rattle.syntax_module.proofs.module_record.visit_mut.VisitMutModuleRecord.visit_dynamic_imports.Given as goal

abbrev pub invariant-loop-i : goal.invariant-loop-i
invariant-loop-i g l =
    (length l.dynamic_imports ≡ length l.initial.dynamic_imports)
    × (on_each (on_dynamic_import g.Self.VisitMutModuleRecord.step) l.initial.self l.initial.dynamic_imports ≡ visited_from (on_dynamic_import g.Self.VisitMutModuleRecord.step) l.i l.self l.dynamic_imports)
