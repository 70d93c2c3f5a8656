use Rattle.std.proofs.Common.{refl}
use Rattle.worked_examples.proofs.Apart.{apart, same_texts}
use Rattle.worked_examples.proofs.modules.exports_stay.Goals as goal
use Rattle.worked_examples.specs.Open.{all_open}

pub returns-clause-renamed : goal.returns-clause-renamed
unfolding all_open
returns-clause-renamed c = record { valid = refl; fails = record { alike = refl; plain = refl; marked = refl; bound = refl; private = refl; stay = apart same_texts _ _ refl refl; one = refl; free = refl; fewest = refl } }

pub returns-clause-other_name : goal.returns-clause-other_name
unfolding all_open
returns-clause-other_name c = record { valid = refl; fails = record { alike = refl; plain = apart same_texts _ _ refl refl; marked = refl; bound = refl; private = refl; stay = refl; one = refl; free = refl; fewest = refl } }

pub returns-clause-again_renamed : goal.returns-clause-again_renamed
unfolding all_open
returns-clause-again_renamed c = record { valid = refl; fails = record { alike = refl; plain = refl; marked = refl; bound = refl; private = refl; stay = apart same_texts _ _ refl refl; one = refl; free = refl; fewest = refl } }
