use Rattle.std.proofs.Common.{refl}
use Rattle.js_grammar.proofs.laws.operators_are_the_words.Goals as goal

pub returns : goal.returns
returns c = record { assignment = refl; binary = refl; logical = refl; unary = refl; update = refl }
