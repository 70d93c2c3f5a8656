use Rattle.std.specs.Prelude.{nat_eq}
use Rattle.std.proofs.Common.{refl}
use Rattle.worked_examples.proofs.Apart.{apart}
use Rattle.worked_examples.proofs.blocks.sibling_blocks_share.Goals as goal
use Rattle.worked_examples.specs.Open.{all_open}

pub returns-clause-unchanged : goal.returns-clause-unchanged
unfolding all_open
returns-clause-unchanged c = record { valid = refl; fails = record { alike = refl; plain = refl; marked = refl; bound = refl; private = refl; stay = refl; one = refl; free = refl; fewest = apart nat_eq _ _ refl refl } }
