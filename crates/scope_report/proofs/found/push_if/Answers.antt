use Rattle.std.proofs.Common.{refl}
use Rattle.scope_report.proofs.FoundSteps.{not_pushed, pushed}
use Rattle.scope_report.proofs.found.push_if.Goals as goal

pub returns-in_ok-push : goal.returns-in_ok-push
returns-in_ok-push c = pushed _ _ c.args.rule _ _ _ refl c.in_ok-push.ensures.items c.args.applies c.if-applies.true

pub returns-else-applies : goal.returns-else-applies
returns-else-applies c = not_pushed _ _ c.args.rule _ c.args.applies c.if-applies.false
