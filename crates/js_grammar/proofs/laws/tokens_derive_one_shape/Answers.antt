use Rattle.js_grammar.proofs.OneShape.{one_shape}
use Rattle.js_grammar.proofs.laws.tokens_derive_one_shape.Goals as goal

pub returns : goal.returns
returns c = one_shape
