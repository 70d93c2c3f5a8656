use Rattle.std.proofs.Common.{sym, ◌∙◌, refl}
use Rattle.syntax_lex.specs.ESTarget.{target_of}
use Rattle.syntax_lex.proofs.es_target.target_of.Goals as goal

pub returns-then-eq : goal.returns-then-eq
unfolding target_of
returns-then-eq c = rw (sym c.eq.ensures ∙ c.if-eq.true) refl

pub returns : goal.returns
unfolding target_of
returns c = rw (sym c.eq.ensures ∙ c.if-eq.false) c.target_among.ensures
