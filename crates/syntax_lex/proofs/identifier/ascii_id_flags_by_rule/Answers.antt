use Rattle.syntax_lex.proofs.Flags.{flags_by_rule}
use Rattle.syntax_lex.proofs.identifier.ascii_id_flags_by_rule.Goals as goal

pub returns : goal.returns
returns c = flags_by_rule c.args.i c.requires
