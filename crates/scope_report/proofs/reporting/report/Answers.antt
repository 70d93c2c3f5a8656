use Rattle.std.specs.Prelude.{List, map}
use Rattle.std.proofs.Common.{ap, subst, sym, ◌∙◌}
use Rattle.scope_report.specs.Findings.{StartInText, findings, located}
use Rattle.scope_report.specs.Found.{found_in}
use Rattle.scope_report.specs.Views.{found_views}
use Rattle.scope_report.specs.declared.found.FoundAt.{FoundAt}
use Rattle.scope_report.proofs.reporting.report.Goals as goal

pub locate-requires-clause-starts : goal.locate-requires-clause-starts
locate-requires-clause-starts c =
    subst (λ (fs : List FoundAt). StartInText c.args.source_text.now (found_views fs)) (c.as_slice.ensures.value ∙ sym c.as_slice-2.ensures.value)
    (c.start_in_text.ensures.yes c.if-not-start_in_text.false)

pub returns-clause-findings : goal.returns-clause-findings
unfolding findings
returns-clause-findings c =
    let text = c.args.source_text.now in
    c.new.ensures ∙ c.in_ok-findings.ensures
    ∙ ap (λ (fs : List FoundAt). map (located text) (found_views fs)) c.as_slice-2.ensures.value
    ∙ ap (map (located text)) (c.in_ok-found.ensures ∙ ap found_in c.root.ensures.root)

pub returns-clause-spans : goal.returns-clause-spans
returns-clause-spans c =
    subst (StartInText c.args.source_text.now) (ap found_views c.as_slice.ensures.value ∙ c.in_ok-found.ensures ∙ ap found_in c.root.ensures.root)
    (c.start_in_text.ensures.yes c.if-not-start_in_text.false)
