use Rattle.std.proofs.Common.{◌≡◌, length}
use Rattle.syntax_module.proofs.Visits.{visited_from}
use Rattle.syntax_module.specs.Visits.{on_each, on_requested_module}
use Rattle.syntax_module.proofs.module_record.visit_mut.VisitMutModuleRecord.visit_requests.Given as goal

abbrev pub invariant-loop-i : goal.invariant-loop-i
invariant-loop-i g l =
    (length l.requests ≡ length l.initial.requests)
    × (on_each (on_requested_module g.Self.VisitMutModuleRecord.step) l.initial.self l.initial.requests ≡ visited_from (on_requested_module g.Self.VisitMutModuleRecord.step) l.i l.self l.requests)
