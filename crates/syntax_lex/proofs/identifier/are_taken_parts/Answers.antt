use Rattle.std.proofs.Common.{◌∙◌, ap}
use Rattle.std.specs.List.{list_all}
use Rattle.std.specs.Str.{chars}
use Rattle.syntax_lex.specs.Identifier.{is_taken_part}
use Rattle.syntax_lex.proofs.Blocks.{parts_cut, taken_parts}
use Rattle.syntax_lex.proofs.identifier.are_taken_parts.Goals as goal

pub range_from-requires : goal.range_from-requires
range_from-requires c some =
    let n = c.ascii_parts_len-len.result in
    let bytes = c.as_bytes.ensures.value in
    parts_cut c.args.text.now n c.utf8.text (rw bytes at c.ascii_parts_len-len.ensures.within)
    (rw bytes at c.ascii_parts_len-len.ensures.parts)

pub returns : goal.returns
returns c =
    c.are_taken_characters.ensures
    ∙ ap (λ text. list_all (is_taken_part c.args.patched) (chars text)) c.range_from.ensures.value
    ∙ taken_parts c.args.patched c.args.text.now c.ascii_parts_len-len.result
    (rw c.as_bytes.ensures.value at c.ascii_parts_len-len.ensures.parts)
