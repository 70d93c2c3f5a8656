use Rattle.std.proofs.Common.{sym, ap, subst, ◌∙◌}
use Rattle.std.proofs.lemmas.Option.{IfSome_then}
use Rattle.mangle_tool.proofs.Ends.{ended_done, ended_too_long, ended_unwritten}
use Rattle.mangle_tool.proofs.Settings.{begun_by, done_by}
use Rattle.mangle_tool.specs.Run.{ended}
use Rattle.tool_words.specs.Words.{IsAsked, command_of}
use Rattle.tool_words.specs.declared.command.Command.{Command}
use Rattle.mangle_tool.proofs.run.run.Goals as goal

pub returns-in-Mangle-clause-done : goal.returns-in-Mangle-clause-done
returns-in-Mangle-clause-done g c = λ h.
    let ws = c.args.words.now in
    done_by (command_of ws) c.in-Mangle.options c.in-Mangle.layout (subst (λ (x : Command). IsAsked (command_of ws) x) c.in-Mangle.is c.in-Ok.ensures.asked) _ _ _ _ _ _
    (c.carry_out.ensures.done (ended_done c.carry_out.result (sym c.from-in-Mangle.ensures ∙ h)))

pub returns-in-Mangle-clause-begun : goal.returns-in-Mangle-clause-begun
returns-in-Mangle-clause-begun g c = λ h.
    let ws = c.args.words.now in
    begun_by (command_of ws) c.in-Mangle.options c.in-Mangle.layout (subst (λ (x : Command). IsAsked (command_of ws) x) c.in-Mangle.is c.in-Ok.ensures.asked) _ _ _ _ _ _
    (c.carry_out.ensures.begun (ended_unwritten c.carry_out.result (sym c.from-in-Mangle.ensures ∙ h)))

pub returns-in-Mangle-clause-too_long_exactly : goal.returns-in-Mangle-clause-too_long_exactly
returns-in-Mangle-clause-too_long_exactly g c = λ reads memory fine.
    IfSome_then (g.S.Source.left c.args.source.now)
    (c.carry_out.ensures.too_long_exactly (λ e. memory (c.from-in-Mangle.ensures ∙ ap ended e)) fine)
    (λ left p. (λ h. p.0 (ended_too_long c.carry_out.result (sym c.from-in-Mangle.ensures ∙ h)), λ h. c.from-in-Mangle.ensures ∙ ap ended (p.1 h)))
