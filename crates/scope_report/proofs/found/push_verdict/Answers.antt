use Rattle.std.specs.Prelude.{[]}
use Rattle.std.proofs.Common.{◌∙◌}
use Rattle.scope_report.proofs.FoundSteps.{none_more}
use Rattle.scope_report.specs.Found.{rules}
use Rattle.scope_report.proofs.found.push_verdict.Goals as goal

pub returns : goal.returns
unfolding rules
returns c =
    none_more c.args.place.now.name.now c.args.place.now.start _
    ∙ c.in_ok-push_if-8.ensures []
    ∙ c.in_ok-push_if-7.ensures _
    ∙ c.in_ok-push_if-6.ensures _
    ∙ c.in_ok-push_if-5.ensures _
    ∙ c.in_ok-push_if-4.ensures _
    ∙ c.in_ok-push_if-3.ensures _
    ∙ c.in_ok-push_if-2.ensures _
    ∙ c.in_ok-push_if.ensures _
