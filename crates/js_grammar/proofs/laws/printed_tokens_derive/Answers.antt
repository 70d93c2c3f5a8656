use Rattle.js_grammar.proofs.PrintedDerive.{printed_derive}
use Rattle.js_grammar.proofs.laws.printed_tokens_derive.Goals as goal

pub returns : goal.returns
returns c = printed_derive
