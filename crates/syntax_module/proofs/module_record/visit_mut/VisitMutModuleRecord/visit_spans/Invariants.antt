use Rattle.std.proofs.Common.{◌≡◌, length}
use Rattle.syntax_module.proofs.Visits.{visited_from}
use Rattle.syntax_module.specs.Visits.{on_each}
use Rattle.syntax_module.proofs.module_record.visit_mut.VisitMutModuleRecord.visit_spans.Given as goal

abbrev pub invariant-loop-i : goal.invariant-loop-i
invariant-loop-i g l =
    (length l.spans ≡ length l.initial.spans)
    × (on_each g.Self.VisitMutModuleRecord.step l.initial.self l.initial.spans ≡ visited_from g.Self.VisitMutModuleRecord.step l.i l.self l.spans)
