use Rattle.std.proofs.Common.{◌≡◌, ◌⊎◌, ◌≤◌, ℕ, List, None, Option, IfSome, length, option_map, sym, ap, subst, ◌∙◌}
use Rattle.std.proofs.lemmas.Option.{IfSome_then}
use Rattle.mangle_tool.specs.declared.status.Status.TheVariants as status
use Rattle.tool_commands.proofs.Commands.{base_either, base_same, by_word, plain_answerable, plain_begun, plain_done, plain_makeable, plain_none, plain_reads, plain_refusal, work_begun, work_done, work_told}
use Rattle.tool_commands.proofs.Ends.{ended_done, ended_too_long, ended_unwritten, work_ends}
use Rattle.tool_commands.specs.Command.{IsToolAsked, IsToolCause, ToolTask, plain, tool_command_of}
use Rattle.tool_commands.specs.Tool.{HasBegunTo, HasDone, IsAnswerable, IsMaking, WasRefused, reads}
use Rattle.tool_commands.specs.Status.{ended}
use Rattle.tool_commands.specs.declared.command.ToolWork.{ToolWork}
use Rattle.tool_commands.specs.declared.tool_status.ToolStatus.{ToolStatus}
use Rattle.tool_commands.specs.declared.tool_status.ToolStatus.TheVariants.{Base}
use Rattle.tool_outside.specs.Outside.{EndsUnlessRefused}
use Rattle.tool_outside.specs.declared.carry_out.TheConstants.{INPUT_LIMIT}
use Rattle.tool_words.specs.Words.{command_of}
use Rattle.tool_commands.proofs.run_tool.run_tool.Goals as goal

-- ---- the work of a command

pub returns-in-Some-clause-done : goal.returns-in-Some-clause-done
returns-in-Some-clause-done g c = λ h.
    let ws = c.args.words.now in
    work_done (tool_command_of ws) _ _ _ _ c.in-Some.work (subst (λ (x : Option ToolWork). IsToolAsked ws x) c.in-Some.is c.in-Ok.ensures.asked) _ _
    (c.carry_out.ensures.done (ended_done c.carry_out.result (sym c.from-in-Some.ensures ∙ h)))

pub returns-in-Some-clause-begun : goal.returns-in-Some-clause-begun
returns-in-Some-clause-begun g c = λ h.
    let ws = c.args.words.now in
    work_begun (tool_command_of ws) _ _ _ _ c.in-Some.work (subst (λ (x : Option ToolWork). IsToolAsked ws x) c.in-Some.is c.in-Ok.ensures.asked) _ _
    (c.carry_out.ensures.begun (ended_unwritten c.carry_out.result (sym c.from-in-Some.ensures ∙ h)))

pub returns-in-Some-clause-complete : goal.returns-in-Some-clause-complete
returns-in-Some-clause-complete g c = λ fine written can.
    let ws = c.args.words.now in
    let w = c.in-Some.work in
    let told = work_told (tool_command_of ws) w (subst (λ (x : Option ToolWork). IsToolAsked ws x) c.in-Some.is c.in-Ok.ensures.asked) (g.S.Source.left c.args.source.now) can in
    subst (λ (s : ToolStatus). (s ≡ Base status.Done) ⊎ (s ≡ Base status.Memory)) (sym c.from-in-Some.ensures)
    (work_ends w told.bytes c.carry_out.result told.can
    (subst (λ (o : Option (List ℕ)). IfSome o (λ left. length left ≤ INPUT_LIMIT → EndsUnlessRefused (λ r. IsToolCause w r left) c.carry_out.result)) told.is
    (c.carry_out.ensures.complete fine written) told.within))

pub returns-in-Some-clause-too_long_exactly : goal.returns-in-Some-clause-too_long_exactly
returns-in-Some-clause-too_long_exactly g c = λ h memory fine.
    IfSome_then (g.S.Source.left c.args.source.now)
    (c.carry_out.ensures.too_long_exactly (λ m. memory (c.from-in-Some.ensures ∙ ap ended m)) fine)
    (λ left p. (λ e. p.0 (ended_too_long c.carry_out.result (sym c.from-in-Some.ensures ∙ e)), λ e. c.from-in-Some.ensures ∙ ap ended (p.1 e)))

-- ---- a run

pub returns-in-None-clause-bad_argument : goal.returns-in-None-clause-bad_argument
returns-in-None-clause-bad_argument g c = λ h.
    let ws = c.args.words.now in
    by_word ws None (sym (subst (λ (x : Option ToolWork). IsToolAsked ws x) c.in-None.is c.in-Ok.ensures.asked)) ∙ ap (option_map plain) (c.run.ensures.bad_argument (base_same _ _ h))

pub returns-in-None-clause-bad_argument_exactly : goal.returns-in-None-clause-bad_argument_exactly
returns-in-None-clause-bad_argument_exactly g c = λ none memory.
    let ws = c.args.words.now in
    let told = by_word ws None (sym (subst (λ (x : Option ToolWork). IsToolAsked ws x) c.in-None.is c.in-Ok.ensures.asked)) in
    ap Base (c.run.ensures.bad_argument_exactly (plain_none (command_of ws) (sym told ∙ none)) (λ m. memory (ap Base m)))

pub returns-in-None-clause-nothing_read : goal.returns-in-None-clause-nothing_read
returns-in-None-clause-nothing_read g c = λ h.
    let ws = c.args.words.now in
    let told = by_word ws None (sym (subst (λ (x : Option ToolWork). IsToolAsked ws x) c.in-None.is c.in-Ok.ensures.asked)) in
    c.run.ensures.nothing_read (sym (plain_reads (command_of ws)) ∙ sym (ap reads told) ∙ h)

pub returns-in-None-clause-done : goal.returns-in-None-clause-done
returns-in-None-clause-done g c = λ h.
    let ws = c.args.words.now in
    let told = by_word ws None (sym (subst (λ (x : Option ToolWork). IsToolAsked ws x) c.in-None.is c.in-Ok.ensures.asked)) in
    subst (λ (t : Option ToolTask). HasDone t (g.S.Source.left c.args.source.now) (g.S.Source.left c.run.new.source) (g.S.Source.given c.args.source.now) (g.S.Source.given c.run.new.source) (g.K.Sink.held c.args.sink.now) (g.K.Sink.held c.run.new.sink)) (sym told)
    (plain_done (command_of ws) _ _ _ _ _ _ (c.run.ensures.done (base_same _ _ h)))

pub returns-in-None-clause-begun : goal.returns-in-None-clause-begun
returns-in-None-clause-begun g c = λ h.
    let ws = c.args.words.now in
    let told = by_word ws None (sym (subst (λ (x : Option ToolWork). IsToolAsked ws x) c.in-None.is c.in-Ok.ensures.asked)) in
    subst (λ (t : Option ToolTask). HasBegunTo t (g.S.Source.left c.args.source.now) (g.S.Source.left c.run.new.source) (g.S.Source.given c.args.source.now) (g.S.Source.given c.run.new.source) (g.K.Sink.held c.args.sink.now) (g.K.Sink.held c.run.new.sink)) (sym told)
    (plain_begun (command_of ws) _ _ _ _ _ _ (c.run.ensures.begun (base_same _ _ h)))

pub returns-in-None-clause-refused : goal.returns-in-None-clause-refused
returns-in-None-clause-refused g c = λ r h memory.
    let ws = c.args.words.now in
    let told = by_word ws None (sym (subst (λ (x : Option ToolWork). IsToolAsked ws x) c.in-None.is c.in-Ok.ensures.asked)) in
    subst (λ (t : Option ToolTask). WasRefused t (g.S.Source.left c.args.source.now) (g.S.Source.left c.run.new.source) (g.S.Source.given c.args.source.now) (g.S.Source.given c.run.new.source) r) (sym told)
    (plain_refusal (command_of ws) c.run.result _ _ _ _ c.run.ensures.refused r h memory)

pub returns-in-None-clause-too_long_exactly : goal.returns-in-None-clause-too_long_exactly
returns-in-None-clause-too_long_exactly g c = λ h memory fine.
    let ws = c.args.words.now in
    let told = by_word ws None (sym (subst (λ (x : Option ToolWork). IsToolAsked ws x) c.in-None.is c.in-Ok.ensures.asked)) in
    IfSome_then (g.S.Source.left c.args.source.now)
    (c.run.ensures.too_long_exactly (sym (plain_reads (command_of ws)) ∙ sym (ap reads told) ∙ h) (λ m. memory (ap Base m)) fine)
    (λ left p. (λ e. p.0 (base_same _ _ e), λ e. ap Base (p.1 e)))

pub returns-in-None-clause-never_unread : goal.returns-in-None-clause-never_unread
returns-in-None-clause-never_unread g c = λ h.
    let ws = c.args.words.now in
    let told = by_word ws None (sym (subst (λ (x : Option ToolWork). IsToolAsked ws x) c.in-None.is c.in-Ok.ensures.asked)) in
    let p = c.run.ensures.never_unread (sym (plain_reads (command_of ws)) ∙ sym (ap reads told) ∙ h) in
    (λ e. p.0 (base_same _ _ e), λ e. p.1 (base_same _ _ e))

pub returns-in-None-clause-complete : goal.returns-in-None-clause-complete
returns-in-None-clause-complete g c = λ fine written can.
    let ws = c.args.words.now in
    let told = by_word ws None (sym (subst (λ (x : Option ToolWork). IsToolAsked ws x) c.in-None.is c.in-Ok.ensures.asked)) in
    base_either c.run.result (c.run.ensures.complete fine written
    (plain_answerable (command_of ws) (g.S.Source.left c.args.source.now) (subst (λ (t : Option ToolTask). IsAnswerable t (g.S.Source.left c.args.source.now)) told can)))

pub returns-in-None-clause-complete_made : goal.returns-in-None-clause-complete_made
returns-in-None-clause-complete_made g c = λ written making.
    let ws = c.args.words.now in
    let told = by_word ws None (sym (subst (λ (x : Option ToolWork). IsToolAsked ws x) c.in-None.is c.in-Ok.ensures.asked)) in
    base_either c.run.result (c.run.ensures.complete_made written (plain_makeable (command_of ws) (subst IsMaking told making)))
