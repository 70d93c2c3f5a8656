use Rattle.std.specs.Prelude.{take}
use Rattle.scope_report.specs.Findings.{StartInText}
use Rattle.scope_report.specs.Views.{found_views}
use Rattle.scope_report.proofs.lines.start_in_text.Given as goal

abbrev pub invariant-loop-one : goal.invariant-loop-one
invariant-loop-one l = StartInText l.source_text (found_views (take l.one-index l.found))
