use Rattle.syntax_lex.specs.Keyword.{is_reserved_keyword, reserved_keywords}
use Rattle.syntax_lex.proofs.keyword.is_reserved_keyword.Goals as goal

pub returns : goal.returns
unfolding is_reserved_keyword reserved_keywords
returns c = c.contains.ensures.value
