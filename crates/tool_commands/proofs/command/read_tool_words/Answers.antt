use Rattle.std.proofs.Common.{Some, Option, sym, ap, subst, ◌∙◌}
use Rattle.std.proofs.lemmas.Result.{err_from_is_err_and}
use Rattle.tool_commands.proofs.Commands.{by_word}
use Rattle.tool_commands.specs.Command.{IsWorkAsked, ToolTask, work_of}
use Rattle.tool_commands.proofs.command.read_tool_words.Goals as goal

pub returns-in_err-read_work-in-Some-clause-bad : goal.returns-in_err-read_work-in-Some-clause-bad
returns-in_err-read_work-in-Some-clause-bad c = λ h.
    let p = err_from_is_err_and c.from_residual.result c.from_residual.ensures.1 in
    by_word c.args.words.now (Some c.in-Some.word) (sym c.in-Some.is ∙ c.command_word.ensures)
    ∙ ap (work_of c.in-Some.word) (sym c.behind_first.ensures) ∙ c.read_work.ensures.bad (cc (p.1, p.2, h))

pub returns-in_ok-read_work-in-Some-clause-asked : goal.returns-in_ok-read_work-in-Some-clause-asked
returns-in_ok-read_work-in-Some-clause-asked c =
    subst (λ (t : Option ToolTask). IsWorkAsked t c.in_ok-read_work-in-Some.field-0)
    (ap (work_of c.in-Some.word) c.behind_first.ensures ∙ sym (by_word c.args.words.now (Some c.in-Some.word) (sym c.in-Some.is ∙ c.command_word.ensures)))
    c.in_ok-read_work-in-Some.ensures.asked
