use Rattle.std.proofs.Common.{◌≡◌, length}
use Rattle.syntax_module.proofs.Visits.{visited_from}
use Rattle.syntax_module.specs.Visits.{on_each, on_requests}
use Rattle.syntax_module.proofs.module_record.visit_mut.VisitMutModuleRecord.visit_requested_modules.Given as goal

abbrev pub invariant-loop-i : goal.invariant-loop-i
invariant-loop-i g l =
    (length l.requested_modules ≡ length l.initial.requested_modules)
    × (on_each (on_requests g.Self.VisitMutModuleRecord.step) l.initial.self l.initial.requested_modules ≡ visited_from (on_requests g.Self.VisitMutModuleRecord.step) l.i l.self l.requested_modules)
