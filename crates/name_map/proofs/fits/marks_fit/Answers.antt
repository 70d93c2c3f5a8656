use Rattle.std.proofs.Common.{refl, sym, ◌∙◌}
use Rattle.name_map.proofs.ListSteps.{mark_all, mark_next, mark_not}
use Rattle.name_map.proofs.fits.marks_fit.Goals as goal

pub returns-then-not-mark_fits : goal.returns-then-not-mark_fits
returns-then-not-mark_fits c =
    mark_not c.args.marks.now c.args.numbers.now c.loop-number.number-index c.loop-number.least 0 c.loop-number.invariant c.loop-number-test.true (sym c.mark_fits.ensures ∙ c.if-not-mark_fits.true)

pub loop-number-preserved : goal.loop-number-preserved
loop-number-preserved c =
    mark_next c.args.marks.now c.args.numbers.now c.loop-number.number-index c.loop-number.least 0 c.loop-number.invariant _ c.loop-number-test.true (sym c.mark_fits.ensures ∙ c.if-not-mark_fits.false) refl

pub returns : goal.returns
returns c = mark_all c.args.marks.now c.args.numbers.now c.loop-number.number-index c.loop-number.least 0 c.loop-number.invariant c.loop-number-test.false
