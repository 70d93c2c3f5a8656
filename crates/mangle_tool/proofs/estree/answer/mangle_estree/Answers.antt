use Rattle.std.proofs.Common.{ℕ, length, subst}
use Rattle.std.proofs.lemmas.Result.{IfErr-weaker, IfOk-weaker}
use Rattle.mangle_options.specs.Settings.{reserved_in}
use Rattle.mangle_tool.proofs.Answers.{answer_to_input, cause_of_program}
use Rattle.mangle_tool.specs.Answer.{IsReadFrom}
use Rattle.mangle_tool.specs.Asked.{asked_by}
use Rattle.mangle_tool.proofs.estree.answer.mangle_estree.Goals as goal

pub returns-clause-answer : goal.returns-clause-answer
returns-clause-answer c =
    IfOk-weaker c.answer_of.result _ _ (λ text answer. answer_to_input (asked_by c.args.options.now c.args.layout) c.args.input.now c.in_ok-program.program _
    (subst (λ (n : ℕ). IsReadFrom n c.args.input.now c.in_ok-program.program) c.len.ensures.len c.in_ok-program.ensures.ok) answer)
    c.answer_of.ensures.answer

pub returns-clause-cause : goal.returns-clause-cause
returns-clause-cause c =
    IfErr-weaker c.answer_of.result _ _ (λ e cause. cause_of_program (length (reserved_in c.args.options.now)) c.args.input.now c.in_ok-program.program e
    (subst (λ (n : ℕ). IsReadFrom n c.args.input.now c.in_ok-program.program) c.len.ensures.len c.in_ok-program.ensures.ok) cause)
    c.answer_of.ensures.cause
