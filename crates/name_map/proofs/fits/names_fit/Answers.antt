use Rattle.std.proofs.Common.{◌≤◌, length, refl, sym, ◌∙◌}
use Rattle.name_map.proofs.ListSteps.{at_end, fit_all, fit_next, fit_not, past_end}
use Rattle.name_map.specs.Undoing.{old_name}
use Rattle.name_map.proofs.fits.names_fit.Goals as goal

pub returns-then-not-name_fits-clause-fit : goal.returns-then-not-name_fits-clause-fit
returns-then-not-name_fits-clause-fit c =
    fit_not c.args.plain.now c.args.names.now c.loop-i.i c.loop-i.least c.loop-i.invariant (old_name c.in-Some.place c.in-Some.name.now) c.in-Some.ensures (sym c.name_fits.ensures ∙ c.if-not-name_fits.true)

pub loop-i-preserved : goal.loop-i-preserved
loop-i-preserved c =
    fit_next c.args.plain.now c.args.names.now c.loop-i.i c.loop-i.least c.loop-i.invariant (old_name c.in-Some.place c.in-Some.name.now) _ c.in-Some.ensures (sym c.name_fits.ensures ∙ c.if-not-name_fits.false) refl

pub returns-after-loop-i-clause-fit : goal.returns-after-loop-i-clause-fit
returns-after-loop-i-clause-fit c =
    let over : length c.args.names.now ≤ c.loop-i.i = rw (← c.len-i-end.ensures.len) c.loop-i-test.false in
    fit_all c.args.plain.now c.args.names.now c.loop-i.i c.loop-i.least c.loop-i.invariant (past_end c.args.names.now c.loop-i.i over)

pub returns-in_default-clause-fit : goal.returns-in_default-clause-fit
returns-in_default-clause-fit c =
    fit_all c.args.plain.now c.args.names.now c.loop-i.i c.loop-i.least c.loop-i.invariant (at_end c.args.names.now c.loop-i.i c.in_default.ensures)
