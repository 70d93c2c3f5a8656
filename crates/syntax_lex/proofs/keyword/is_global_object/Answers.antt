use Rattle.syntax_lex.specs.Keyword.{is_global_object, global_objects}
use Rattle.syntax_lex.proofs.keyword.is_global_object.Goals as goal

pub returns : goal.returns
unfolding is_global_object global_objects
returns c = c.contains.ensures.value
