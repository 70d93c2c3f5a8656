use Rattle.std.proofs.Common.{refl}
use Rattle.worked_examples.proofs.Apart.{untrue}
use Rattle.worked_examples.proofs.blocks.references_rank.Goals as goal
use Rattle.worked_examples.specs.Open.{all_open}

pub returns-clause-reserved : goal.returns-clause-reserved
unfolding all_open
returns-clause-reserved c = record { valid = refl; fails = record { alike = refl; plain = refl; marked = refl; bound = refl; private = refl; stay = refl; one = refl; free = untrue _ refl; fewest = refl } }
