use Rattle.std.specs.Prelude.{nat_eq}
use Rattle.std.proofs.Common.{refl}
use Rattle.worked_examples.proofs.Apart.{apart, same_options, same_texts}
use Rattle.worked_examples.proofs.blocks.for_head_declares.Goals as goal
use Rattle.worked_examples.specs.Open.{all_open}

pub returns-clause-one_name : goal.returns-clause-one_name
unfolding all_open
returns-clause-one_name c = record { valid = refl; fails = record { alike = refl; plain = refl; marked = refl; bound = apart same_options _ _ refl refl; private = refl; stay = refl; one = refl; free = refl; fewest = apart nat_eq _ _ refl refl } }

pub returns-clause-behind : goal.returns-clause-behind
unfolding all_open
returns-clause-behind c = record { valid = refl; fails = record { alike = refl; plain = refl; marked = refl; bound = refl; private = refl; stay = apart same_texts _ _ refl refl; one = refl; free = refl; fewest = refl } }
