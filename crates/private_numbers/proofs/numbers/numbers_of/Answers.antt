use Rattle.std.proofs.Common.{sym, ◌∙◌}
use Rattle.private_numbers.proofs.Held.{numbers_read}
use Rattle.private_numbers.proofs.numbers.numbers_of.Goals as goal

pub returns : goal.returns
returns c = c.as_slice.ensures.value ∙ sym (numbers_read c.args.classes.now c.args.class_body _ c.requires)
