use Rattle.std.proofs.Common.{◌∙◌, refl}
use Rattle.std.specs.Str.{chars}
use Rattle.syntax_lex.proofs.Names.{none_is_dot}
use Rattle.syntax_lex.proofs.identifier.is_identifier_name_patched.Goals as goal

pub returns : goal.returns
returns c = c.is_identifier_name_impl.ensures ∙ rw (none_is_dot (chars c.args.name.now)) refl
