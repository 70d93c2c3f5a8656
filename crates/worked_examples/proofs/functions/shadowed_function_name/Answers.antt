use Rattle.std.specs.Prelude.{nat_eq}
use Rattle.std.proofs.Common.{refl}
use Rattle.worked_examples.proofs.Apart.{apart, same_texts}
use Rattle.worked_examples.proofs.functions.shadowed_function_name.Goals as goal
use Rattle.worked_examples.specs.Open.{all_open}

pub returns-clause-two_names : goal.returns-clause-two_names
unfolding all_open
returns-clause-two_names c = record { valid = refl; fails = record { alike = refl; plain = refl; marked = refl; bound = refl; private = refl; stay = refl; one = refl; free = refl; fewest = apart nat_eq _ _ refl refl } }

pub returns-clause-not_kept : goal.returns-clause-not_kept
unfolding all_open
returns-clause-not_kept c = record { valid = refl; fails = record { alike = refl; plain = refl; marked = refl; bound = refl; private = refl; stay = apart same_texts _ _ refl refl; one = refl; free = refl; fewest = refl } }
