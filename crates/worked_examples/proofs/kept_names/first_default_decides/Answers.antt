use Rattle.std.proofs.Common.{refl}
use Rattle.worked_examples.proofs.Apart.{apart, same_texts}
use Rattle.worked_examples.proofs.kept_names.first_default_decides.Goals as goal
use Rattle.worked_examples.specs.Open.{all_open}

pub returns-clause-first_renamed : goal.returns-clause-first_renamed
unfolding all_open
returns-clause-first_renamed c = record { valid = refl; fails = record { alike = refl; plain = refl; marked = refl; bound = refl; private = refl; stay = apart same_texts _ _ refl refl; one = refl; free = refl; fewest = refl } }
