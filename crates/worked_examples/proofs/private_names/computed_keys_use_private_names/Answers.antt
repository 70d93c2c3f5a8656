use Rattle.std.proofs.Common.{refl}
use Rattle.worked_examples.proofs.Apart.{apart, same_options}
use Rattle.worked_examples.proofs.private_names.computed_keys_use_private_names.Goals as goal
use Rattle.worked_examples.specs.Open.{all_open}

pub returns-clause-captured : goal.returns-clause-captured
unfolding all_open
returns-clause-captured c = record { valid = refl; fails = record { alike = refl; plain = refl; marked = refl; bound = refl; private = apart same_options _ _ refl refl; stay = refl; one = refl; free = refl; fewest = refl } }

pub returns-clause-own_class : goal.returns-clause-own_class
unfolding all_open
returns-clause-own_class c = record { valid = refl; fails = record { alike = refl; plain = refl; marked = refl; bound = refl; private = apart same_options _ _ refl refl; stay = refl; one = refl; free = refl; fewest = refl } }
