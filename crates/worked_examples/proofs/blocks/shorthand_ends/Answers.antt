use Rattle.std.proofs.Common.{refl}
use Rattle.worked_examples.proofs.Apart.{apart, same_flags, same_texts}
use Rattle.worked_examples.proofs.blocks.shorthand_ends.Goals as goal
use Rattle.worked_examples.specs.Open.{all_open}

pub returns-clause-left : goal.returns-clause-left
unfolding all_open
returns-clause-left c = record { valid = refl; fails = record { alike = refl; plain = refl; marked = apart same_flags _ _ refl refl; bound = refl; private = refl; stay = refl; one = refl; free = refl; fewest = refl } }

pub returns-clause-ended : goal.returns-clause-ended
unfolding all_open
returns-clause-ended c = record { valid = refl; fails = record { alike = refl; plain = refl; marked = apart same_flags _ _ refl refl; bound = refl; private = refl; stay = refl; one = refl; free = refl; fewest = refl } }

pub returns-clause-begun : goal.returns-clause-begun
unfolding all_open
returns-clause-begun c = record { valid = refl; fails = record { alike = refl; plain = refl; marked = apart same_flags _ _ refl refl; bound = refl; private = refl; stay = refl; one = refl; free = refl; fewest = refl } }

pub returns-clause-key : goal.returns-clause-key
unfolding all_open
returns-clause-key c = record { valid = refl; fails = record { alike = refl; plain = apart same_texts _ _ refl refl; marked = refl; bound = refl; private = refl; stay = refl; one = refl; free = refl; fewest = refl } }
