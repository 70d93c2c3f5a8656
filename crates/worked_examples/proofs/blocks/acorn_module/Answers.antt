use Rattle.std.specs.Prelude.{bytes_eq, nat_eq}
use Rattle.std.proofs.Common.{refl}
use Rattle.worked_examples.proofs.Apart.{apart, apart_by, same_options, untrue, wholes}
use Rattle.worked_examples.proofs.blocks.acorn_module.Goals as goal
use Rattle.worked_examples.specs.Open.{all_open}

pub returns-clause-keyword : goal.returns-clause-keyword
unfolding all_open
returns-clause-keyword c = record { valid = refl; fails = record { alike = refl; plain = refl; marked = refl; bound = refl; private = refl; stay = refl; one = refl; free = untrue _ refl; fewest = refl } }

pub returns-clause-eval : goal.returns-clause-eval
unfolding all_open
returns-clause-eval c = record { valid = refl; fails = record { alike = refl; plain = refl; marked = refl; bound = refl; private = refl; stay = refl; one = refl; free = untrue _ refl; fewest = refl } }

pub returns-clause-two_names : goal.returns-clause-two_names
unfolding all_open
returns-clause-two_names c = record { valid = refl; fails = record { alike = refl; plain = refl; marked = refl; bound = apart same_options _ _ refl refl; private = refl; stay = refl; one = untrue _ refl; free = refl; fewest = apart nat_eq _ _ refl refl } }

pub returns-clause-other_tree : goal.returns-clause-other_tree
unfolding all_open
returns-clause-other_tree c = record { valid = refl; fails = record { alike = apart_by wholes bytes_eq _ _ refl refl; plain = refl; marked = refl; bound = refl; private = refl; stay = refl; one = refl; free = refl; fewest = refl } }
