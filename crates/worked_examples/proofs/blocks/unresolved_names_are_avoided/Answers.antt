use Rattle.std.proofs.Common.{refl}
use Rattle.worked_examples.proofs.Apart.{apart, same_options, same_texts, untrue}
use Rattle.worked_examples.proofs.blocks.unresolved_names_are_avoided.Goals as goal
use Rattle.worked_examples.specs.Open.{all_open}

pub returns-clause-captured : goal.returns-clause-captured
unfolding all_open
returns-clause-captured c = record { valid = refl; fails = record { alike = refl; plain = refl; marked = refl; bound = apart same_options _ _ refl refl; private = refl; stay = refl; one = refl; free = untrue _ refl; fewest = refl } }

pub returns-clause-captured_call : goal.returns-clause-captured_call
unfolding all_open
returns-clause-captured_call c = record { valid = refl; fails = record { alike = refl; plain = refl; marked = refl; bound = apart same_options _ _ refl refl; private = refl; stay = refl; one = refl; free = untrue _ refl; fewest = refl } }

pub returns-clause-renamed : goal.returns-clause-renamed
unfolding all_open
returns-clause-renamed c = record { valid = refl; fails = record { alike = refl; plain = refl; marked = refl; bound = refl; private = refl; stay = apart same_texts _ _ refl refl; one = refl; free = refl; fewest = refl } }
