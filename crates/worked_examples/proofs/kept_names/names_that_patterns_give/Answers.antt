use Rattle.std.proofs.Common.{refl}
use Rattle.worked_examples.proofs.Apart.{apart, same_texts}
use Rattle.worked_examples.proofs.kept_names.names_that_patterns_give.Goals as goal
use Rattle.worked_examples.specs.Open.{all_open}

pub returns-clause-default_renamed : goal.returns-clause-default_renamed
unfolding all_open
returns-clause-default_renamed c = record { valid = refl; fails = record { alike = refl; plain = refl; marked = refl; bound = refl; private = refl; stay = apart same_texts _ _ refl refl; one = refl; free = refl; fewest = refl } }

pub returns-clause-target_renamed : goal.returns-clause-target_renamed
unfolding all_open
returns-clause-target_renamed c = record { valid = refl; fails = record { alike = refl; plain = refl; marked = refl; bound = refl; private = refl; stay = apart same_texts _ _ refl refl; one = refl; free = refl; fewest = refl } }
