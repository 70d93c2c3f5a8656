use Rattle.syntax_lex.proofs.Flags.{start_flag}
use Rattle.syntax_lex.proofs.identifier.is_identifier_start_ascii.Goals as goal

pub returns : goal.returns
returns c = rw c.get.ensures (start_flag c.args.c c.requires)
