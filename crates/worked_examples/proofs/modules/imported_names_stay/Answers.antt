use Rattle.std.proofs.Common.{refl}
use Rattle.worked_examples.proofs.Apart.{apart, same_texts}
use Rattle.worked_examples.proofs.modules.imported_names_stay.Goals as goal
use Rattle.worked_examples.specs.Open.{all_open}

pub returns-clause-other_name : goal.returns-clause-other_name
unfolding all_open
returns-clause-other_name c = record { valid = refl; fails = record { alike = refl; plain = apart same_texts _ _ refl refl; marked = refl; bound = refl; private = refl; stay = refl; one = refl; free = refl; fewest = refl } }
