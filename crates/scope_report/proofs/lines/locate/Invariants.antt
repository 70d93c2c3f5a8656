use Rattle.std.specs.Prelude.{◌≡◌, map, take}
use Rattle.scope_report.specs.Findings.{located}
use Rattle.scope_report.specs.Views.{found_view}
use Rattle.scope_report.proofs.lines.locate.Given as goal

abbrev pub invariant-loop-one : goal.invariant-loop-one
invariant-loop-one l = l.findings.items ≡ map (λ f. located l.source_text (found_view f)) (take l.one-index l.found)
