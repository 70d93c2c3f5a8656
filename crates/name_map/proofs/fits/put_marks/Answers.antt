use Rattle.std.proofs.Common.{slice_index_or, slice_set, true, length, ap, ◌∙◌}
use Rattle.name_map.proofs.ListSteps.{marks_all, marks_next}
use Rattle.tree_rename.proofs.LoopSteps.{written_back}
use Rattle.name_map.proofs.fits.put_marks.Goals as goal

pub loop-number-preserved : goal.loop-number-preserved
loop-number-preserved c =
    let number = slice_index_or c.args.numbers.now c.loop-number.number-index 0 in
    let back = written_back c.loop-number.marks.len c.put_mark.new.marks c.loop-number.marks.items c.loop-number.marks.ok.0 (c.put_mark.auto.marks ∙ ap length c.deref_mut.ensures.value) in
    marks_next c.args.numbers.now c.args.marks.items c.loop-number.marks.items _ c.loop-number.number-index 0 c.loop-number.invariant c.loop-number-test.true
    (back ∙ c.put_mark.ensures ∙ ap (λ bs. slice_set bs number true) c.deref_mut.ensures.value)

pub returns : goal.returns
returns c = marks_all c.args.numbers.now c.args.marks.items c.loop-number.marks.items c.loop-number.number-index c.loop-number.invariant c.loop-number-test.false
