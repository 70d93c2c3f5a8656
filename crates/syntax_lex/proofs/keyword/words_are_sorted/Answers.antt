use Rattle.std.proofs.Common.{refl}
use Rattle.syntax_lex.specs.Keyword.{reserved_keywords, global_objects}
use Rattle.syntax_lex.proofs.keyword.words_are_sorted.Goals as goal

pub returns-clause-reserved : goal.returns-clause-reserved
unfolding reserved_keywords
returns-clause-reserved c = refl

pub returns-clause-global : goal.returns-clause-global
unfolding global_objects
returns-clause-global c = refl

pub returns-clause-reserved_rise : goal.returns-clause-reserved_rise
unfolding reserved_keywords
returns-clause-reserved_rise c = refl

pub returns-clause-global_rise : goal.returns-clause-global_rise
unfolding global_objects
returns-clause-global_rise c = refl
