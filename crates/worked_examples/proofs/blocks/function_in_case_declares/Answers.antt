use Rattle.std.proofs.Common.{refl}
use Rattle.worked_examples.proofs.Apart.{apart, same_texts}
use Rattle.worked_examples.proofs.blocks.function_in_case_declares.Goals as goal
use Rattle.worked_examples.specs.Open.{all_open}

pub returns-clause-behind : goal.returns-clause-behind
unfolding all_open
returns-clause-behind c = record { valid = refl; fails = record { alike = refl; plain = refl; marked = refl; bound = refl; private = refl; stay = apart same_texts _ _ refl refl; one = refl; free = refl; fewest = refl } }
