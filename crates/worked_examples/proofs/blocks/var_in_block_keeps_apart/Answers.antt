use Rattle.std.specs.Prelude.{nat_eq}
use Rattle.std.proofs.Common.{refl}
use Rattle.worked_examples.proofs.Apart.{apart}
use Rattle.worked_examples.proofs.blocks.var_in_block_keeps_apart.Goals as goal
use Rattle.worked_examples.specs.Open.{all_open}

pub returns-clause-one_name : goal.returns-clause-one_name
unfolding all_open
returns-clause-one_name c = record { valid = refl; fails = record { alike = refl; plain = refl; marked = refl; bound = refl; private = refl; stay = refl; one = refl; free = refl; fewest = apart nat_eq _ _ refl refl } }
