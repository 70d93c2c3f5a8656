use Rattle.std.proofs.Common.{subst, arith}
use Rattle.oxc_data_structures.proofs.RopeColumns.{IsOffsetOf-from_fitting}
use Rattle.oxc_data_structures.specs.Rope.{IsFittingLen}
use Rattle.oxc_data_structures.proofs.rope.get_offset_from_line_and_column.Goals as goal

pub overflow_add-result : goal.overflow_add-result
overflow_add-result c = omega (arith, c.fitting_len.ensures.fits.boundary.0, c.text_of.ensures.in_range, c.start_of.ensures)

pub returns : goal.returns
returns c =
    rw c.start_of.ensures
    (IsOffsetOf-from_fitting c.args.rope.now c.args.line c.args.column c.fitting_len.result c.text_of.ensures.utf8 c.requires
    (subst (λ text. IsFittingLen text c.args.column c.fitting_len.result) c.text_of.ensures.text c.fitting_len.ensures))
