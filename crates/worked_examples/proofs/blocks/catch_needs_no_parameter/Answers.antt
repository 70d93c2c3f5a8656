use Rattle.std.proofs.Common.{refl}
use Rattle.worked_examples.proofs.Apart.{untrue}
use Rattle.worked_examples.proofs.blocks.catch_needs_no_parameter.Goals as goal
use Rattle.worked_examples.specs.Open.{all_open}

pub returns-clause-by_global : goal.returns-clause-by_global
unfolding all_open
returns-clause-by_global c = record { valid = refl; fails = record { alike = refl; plain = refl; marked = refl; bound = refl; private = refl; stay = refl; one = refl; free = untrue _ refl; fewest = refl } }
