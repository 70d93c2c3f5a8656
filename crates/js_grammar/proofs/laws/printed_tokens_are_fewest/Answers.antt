use Rattle.js_grammar.proofs.Fewest.{fewest}
use Rattle.js_grammar.proofs.laws.printed_tokens_are_fewest.Goals as goal

pub returns : goal.returns
returns c = fewest
