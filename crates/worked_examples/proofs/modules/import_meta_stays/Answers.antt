use Rattle.std.proofs.Common.{refl}
use Rattle.worked_examples.proofs.Apart.{apart, same_texts}
use Rattle.worked_examples.proofs.modules.import_meta_stays.Goals as goal
use Rattle.worked_examples.specs.Open.{all_open}

pub returns-clause-renamed : goal.returns-clause-renamed
unfolding all_open
returns-clause-renamed c = record { valid = refl; fails = record { alike = refl; plain = apart same_texts _ _ refl refl; marked = refl; bound = refl; private = refl; stay = refl; one = refl; free = refl; fewest = refl } }
