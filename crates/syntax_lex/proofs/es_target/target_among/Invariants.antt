use Rattle.std.proofs.Common.{◌≡◌, drop}
use Rattle.syntax_lex.specs.ESTarget.{target_among}
use Rattle.syntax_lex.proofs.es_target.target_among.Given as goal

abbrev pub invariant-loop-target : goal.invariant-loop-target
invariant-loop-target l = target_among (drop l.target-index l.targets) l.word ≡ target_among l.targets l.word
