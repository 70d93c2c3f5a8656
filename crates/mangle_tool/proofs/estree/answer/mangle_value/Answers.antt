use Rattle.std.proofs.Common.{◌≡◌, ℕ, false, length, subst}
use Rattle.std.proofs.lemmas.Result.{IfErr-weaker, IfOk-weaker}
use Rattle.mangle_options.specs.Settings.{reserved_in}
use Rattle.mangle_tool.proofs.Answers.{answer_to_value, cause_for_value}
use Rattle.mangle_tool.specs.Asked.{asked_by}
use Rattle.serde_json.specs.View.{view}
use Rattle.tree_core.specs.Limits.{is_too_large}
use Rattle.mangle_tool.proofs.estree.answer.mangle_value.Goals as goal

pub returns-clause-answer : goal.returns-clause-answer
returns-clause-answer c =
    IfOk-weaker c.answer_of.result _ _ (λ text answer. answer_to_value (asked_by c.args.options.now c.args.layout) (view c.args.value.now) c.in_ok-program.program _
    (subst (λ (n : ℕ). is_too_large (view c.args.value.now) n ≡ false) c.len.ensures.len c.in_ok-program.ensures.within) c.in_ok-program.ensures.ok answer)
    c.answer_of.ensures.answer

pub returns-clause-cause : goal.returns-clause-cause
returns-clause-cause c =
    IfErr-weaker c.answer_of.result _ _ (λ e cause. cause_for_value (length (reserved_in c.args.options.now)) (view c.args.value.now) c.in_ok-program.program e
    (subst (λ (n : ℕ). is_too_large (view c.args.value.now) n ≡ false) c.len.ensures.len c.in_ok-program.ensures.within) c.in_ok-program.ensures.ok cause)
    c.answer_of.ensures.cause
