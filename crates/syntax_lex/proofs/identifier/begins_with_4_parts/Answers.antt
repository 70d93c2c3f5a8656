use Rattle.std.proofs.Common.{sym, ◌∙◌}
use Rattle.std.proofs.lemmas.Bool.{ltb-true}
use Rattle.syntax_lex.proofs.Blocks.{ascii_front_4}
use Rattle.syntax_lex.proofs.identifier.begins_with_4_parts.Goals as goal

pub are_ascii_parts-requires : goal.are_ascii_parts-requires
are_ascii_parts-requires c =
    ascii_front_4 c.args.bytes.now c.in-len4-up.len_at_least (ltb-true _ 128 (sym c.is_ascii.ensures ∙ c.if-is_ascii.true))
