use Rattle.std.specs.Prelude.{nat_eq}
use Rattle.std.proofs.Common.{refl}
use Rattle.worked_examples.proofs.Apart.{apart, same_options}
use Rattle.worked_examples.proofs.classes.class_in_heritage_sees_the_declared.Goals as goal
use Rattle.worked_examples.specs.Open.{all_open}

pub returns-clause-captured : goal.returns-clause-captured
unfolding all_open
returns-clause-captured c = record { valid = refl; fails = record { alike = refl; plain = refl; marked = refl; bound = apart same_options _ _ refl refl; private = refl; stay = refl; one = refl; free = refl; fewest = apart nat_eq _ _ refl refl } }
