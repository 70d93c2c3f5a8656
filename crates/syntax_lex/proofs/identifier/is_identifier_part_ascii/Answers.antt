use Rattle.syntax_lex.proofs.Flags.{part_flag}
use Rattle.syntax_lex.proofs.identifier.is_identifier_part_ascii.Goals as goal

pub returns : goal.returns
returns c = rw c.get.ensures (part_flag c.args.c c.requires)
