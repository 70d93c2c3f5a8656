use Rattle.std.proofs.Common.{ℕ, length, subst}
use Rattle.std.proofs.lemmas.Result.{IfErr-weaker, IfOk-weaker}
use Rattle.mangle_options.specs.Settings.{reserved_in}
use Rattle.mangle_tool.proofs.Answers.{cause_of_program}
use Rattle.mangle_tool.specs.Answer.{IsReadFrom}
use Rattle.mangle_tool.specs.Asked.{asked_by}
use Rattle.tool_commands.proofs.MapAnswers.{is_map_answer}
use Rattle.tool_words.specs.declared.command.Layout.TheVariants.{Compact}
use Rattle.tool_commands.proofs.map_answer.map_answer.Goals as goal

pub returns-clause-answer : goal.returns-clause-answer
returns-clause-answer c =
    IfOk-weaker c.map_of_program.result _ _ (λ text answer. is_map_answer (asked_by c.args.options.now Compact) c.args.input.now c.in_ok-program.program _
    (subst (λ (n : ℕ). IsReadFrom n c.args.input.now c.in_ok-program.program) c.len.ensures.len c.in_ok-program.ensures.ok) answer)
    c.map_of_program.ensures.answer

pub returns-clause-cause : goal.returns-clause-cause
returns-clause-cause c =
    IfErr-weaker c.map_of_program.result _ _ (λ e cause. cause_of_program (length (reserved_in c.args.options.now)) c.args.input.now c.in_ok-program.program e
    (subst (λ (n : ℕ). IsReadFrom n c.args.input.now c.in_ok-program.program) c.len.ensures.len c.in_ok-program.ensures.ok) cause)
    c.map_of_program.ensures.cause
