use Rattle.std.specs.Prelude.{nat_eq}
use Rattle.std.proofs.Common.{refl}
use Rattle.worked_examples.proofs.Apart.{apart, same_options, untrue}
use Rattle.worked_examples.proofs.classes.class_sees_its_own_name.Goals as goal
use Rattle.worked_examples.specs.Open.{all_open}

pub returns-clause-heritage : goal.returns-clause-heritage
unfolding all_open
returns-clause-heritage c = record { valid = refl; fails = record { alike = refl; plain = refl; marked = refl; bound = apart same_options _ _ refl refl; private = refl; stay = refl; one = untrue _ refl; free = refl; fewest = apart nat_eq _ _ refl refl } }

pub returns-clause-key : goal.returns-clause-key
unfolding all_open
returns-clause-key c = record { valid = refl; fails = record { alike = refl; plain = refl; marked = refl; bound = apart same_options _ _ refl refl; private = refl; stay = refl; one = untrue _ refl; free = refl; fewest = apart nat_eq _ _ refl refl } }

pub returns-clause-body : goal.returns-clause-body
unfolding all_open
returns-clause-body c = record { valid = refl; fails = record { alike = refl; plain = refl; marked = refl; bound = apart same_options _ _ refl refl; private = refl; stay = refl; one = untrue _ refl; free = refl; fewest = apart nat_eq _ _ refl refl } }
