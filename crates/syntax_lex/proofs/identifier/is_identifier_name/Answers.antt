use Rattle.std.proofs.Common.{◌∙◌}
use Rattle.std.proofs.Math.Bool.{and-true}
use Rattle.std.specs.Str.{chars}
use Rattle.syntax_lex.proofs.Names.{all_taken}
use Rattle.syntax_lex.proofs.identifier.is_identifier_name.Goals as goal

pub returns : goal.returns
returns c = c.is_identifier_name_impl.ensures ∙ rw (all_taken (chars c.args.name.now)) (and-true _)
