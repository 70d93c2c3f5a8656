use Rattle.std.proofs.Common.{◌≤◌, ℕ, List, Bor, slice_set, length, map, ap, ◌∙◌}
use Rattle.name_map.proofs.ListSteps.{at_end, past_end, put_all, put_next}
use Rattle.name_map.specs.Undoing.{old_name}
use Rattle.tree_rename.proofs.LoopSteps.{written_back}
use Rattle.name_map.proofs.fits.put_names.Goals as goal

abbrev texts : List (Bor (List ℕ)) → List (List ℕ)
texts xs = map (λ x. x.now) xs

pub loop-i-preserved : goal.loop-i-preserved
loop-i-preserved c =
    let back = written_back c.loop-i.names.len c.put_name.new.names c.loop-i.names.items c.loop-i.names.ok.0 (c.put_name.auto.names ∙ ap length c.deref_mut.ensures.value) in
    put_next c.args.old.now (texts c.args.names.items) (texts c.loop-i.names.items) c.loop-i.i c.loop-i.invariant (old_name c.in-Some.place c.in-Some.name.now) _ c.in-Some.ensures
    (ap texts back ∙ c.put_name.ensures ∙ ap (λ xs. slice_set (texts xs) c.in-Some.place c.in-Some.name.now) c.deref_mut.ensures.value)

pub returns-after-loop-i : goal.returns-after-loop-i
returns-after-loop-i c =
    let over : length c.args.old.now ≤ c.loop-i.i = rw (← c.len-i-end.ensures.len) c.loop-i-test.false in
    put_all c.args.old.now (texts c.args.names.items) (texts c.loop-i.names.items) c.loop-i.i c.loop-i.invariant (past_end c.args.old.now c.loop-i.i over)

pub returns-in_default : goal.returns-in_default
returns-in_default c =
    put_all c.args.old.now (texts c.args.names.items) (texts c.loop-i.names.items) c.loop-i.i c.loop-i.invariant (at_end c.args.old.now c.loop-i.i c.in_default.ensures)
