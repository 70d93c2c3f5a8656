use Rattle.std.proofs.Common.{◌≤◌, None, Some, length, replicate, slice_set, ap, ◌∙◌}
use Rattle.name_map.proofs.ListSteps.{at_end, choose_all, choose_next, past_end}
use Rattle.name_map.specs.Undoing.{old_name}
use Rattle.tree_rename.proofs.LoopSteps.{written_back}
use Rattle.name_map.proofs.naming.choices_of.Goals.{else-loop-i-test, then-loop-i-test+in_default}
use Rattle.name_map.proofs.naming.choices_of.Goals as goal

pub loop-i-preserved : goal.loop-i-preserved
loop-i-preserved c =
    let back = written_back c.loop-i.choices.len c.choose_one.new.choices c.loop-i.choices.items c.loop-i.choices.ok.0 (c.choose_one.auto.choices ∙ ap length c.deref_mut.ensures.value) in
    choose_next c.args.names.now (replicate c.args.count None) c.loop-i.choices.items c.loop-i.i c.loop-i.invariant (old_name c.in-Some.place c.in-Some.field-0-1.now) _ c.in-Some.ensures
    (back ∙ c.choose_one.ensures ∙ ap (λ cs. slice_set cs c.in-Some.place (Some c.loop-i.i)) c.deref_mut.ensures.value)

pub returns : goal.returns
returns c = elim c.loop-i-test.branch [
  | else-loop-i-test w ↦
      let over : length c.args.names.now ≤ c.loop-i.i = rw (← c.len-i-end.ensures.len) w.loop-i-test.false in
      choose_all c.args.names.now (replicate c.args.count None) c.loop-i.choices.items c.loop-i.i c.loop-i.invariant (past_end c.args.names.now c.loop-i.i over)
  | then-loop-i-test+in_default w ↦
      choose_all c.args.names.now (replicate c.args.count None) c.loop-i.choices.items c.loop-i.i c.loop-i.invariant (at_end c.args.names.now c.loop-i.i w.in_default.ensures)
]
