use Rattle.std.proofs.Common.{refl}
use Rattle.worked_examples.proofs.Apart.{apart, same_texts}
use Rattle.worked_examples.proofs.kept_names.names_that_functions_need.Goals as goal
use Rattle.worked_examples.specs.Open.{all_open}

pub returns-clause-declared_renamed : goal.returns-clause-declared_renamed
unfolding all_open
returns-clause-declared_renamed c = record { valid = refl; fails = record { alike = refl; plain = refl; marked = refl; bound = refl; private = refl; stay = apart same_texts _ _ refl refl; one = refl; free = refl; fewest = refl } }

pub returns-clause-assigned_renamed : goal.returns-clause-assigned_renamed
unfolding all_open
returns-clause-assigned_renamed c = record { valid = refl; fails = record { alike = refl; plain = refl; marked = refl; bound = refl; private = refl; stay = apart same_texts _ _ refl refl; one = refl; free = refl; fewest = refl } }
