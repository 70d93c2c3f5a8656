use Rattle.std.specs.Prelude.{nat_eq}
use Rattle.std.proofs.Common.{refl}
use Rattle.worked_examples.proofs.Apart.{apart, same_options, untrue}
use Rattle.worked_examples.proofs.blocks.for_in_head_declares.Goals as goal
use Rattle.worked_examples.specs.Open.{all_open}

pub returns-clause-unseen : goal.returns-clause-unseen
unfolding all_open
returns-clause-unseen c = record { valid = refl; fails = record { alike = refl; plain = refl; marked = refl; bound = apart same_options _ _ refl refl; private = refl; stay = refl; one = untrue _ refl; free = untrue _ refl; fewest = apart nat_eq _ _ refl refl } }

pub returns-clause-of_unseen : goal.returns-clause-of_unseen
unfolding all_open
returns-clause-of_unseen c = record { valid = refl; fails = record { alike = refl; plain = refl; marked = refl; bound = apart same_options _ _ refl refl; private = refl; stay = refl; one = untrue _ refl; free = refl; fewest = apart nat_eq _ _ refl refl } }
