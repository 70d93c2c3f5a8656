use Rattle.std.proofs.Common.{refl}
use Rattle.worked_examples.proofs.Apart.{apart, same_texts}
use Rattle.worked_examples.proofs.modules.names_of_other_modules_stay.Goals as goal
use Rattle.worked_examples.specs.Open.{all_open}

pub returns-clause-other_name : goal.returns-clause-other_name
unfolding all_open
returns-clause-other_name c = record { valid = refl; fails = record { alike = refl; plain = apart same_texts _ _ refl refl; marked = refl; bound = refl; private = refl; stay = refl; one = refl; free = refl; fewest = refl } }

pub returns-clause-all_other_name : goal.returns-clause-all_other_name
unfolding all_open
returns-clause-all_other_name c = record { valid = refl; fails = record { alike = refl; plain = apart same_texts _ _ refl refl; marked = refl; bound = refl; private = refl; stay = refl; one = refl; free = refl; fewest = refl } }

pub returns-clause-attribute_renamed : goal.returns-clause-attribute_renamed
unfolding all_open
returns-clause-attribute_renamed c = record { valid = refl; fails = record { alike = refl; plain = apart same_texts _ _ refl refl; marked = refl; bound = refl; private = refl; stay = refl; one = refl; free = refl; fewest = refl } }
