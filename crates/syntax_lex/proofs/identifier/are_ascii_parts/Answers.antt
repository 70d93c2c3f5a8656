use Rattle.std.proofs.Common.{◌∙◌, sym, refl, get_or, take_all}
use Rattle.std.proofs.lemmas.Bool.{lt-ltb}
use Rattle.std.proofs.lemmas.List.Folds.{list_all_at, list_all_more}
use Rattle.syntax_lex.specs.Identifier.{is_ascii_part}
use Rattle.syntax_lex.proofs.identifier.are_ascii_parts.Goals as goal

pub loop-byte-preserved : goal.loop-byte-preserved
loop-byte-preserved c =
    let i = c.loop-byte.byte-index in
    let b = get_or c.args.bytes.now i 0 in
    let part = sym c.is_identifier_part_ascii.ensures ∙ c.if-not-is_identifier_part_ascii.false in
    list_all_more is_ascii_part c.args.bytes.now i 0 c.loop-byte-test.true
    ∙ rw (c.loop-byte.invariant, part, lt-ltb b 128 (c.requires i)) refl

pub returns-then-not-is_identifier_part_ascii : goal.returns-then-not-is_identifier_part_ascii
returns-then-not-is_identifier_part_ascii c =
    let i = c.loop-byte.byte-index in
    let b = get_or c.args.bytes.now i 0 in
    let other = sym c.is_identifier_part_ascii.ensures ∙ c.if-not-is_identifier_part_ascii.true in
    sym (list_all_at is_ascii_part c.args.bytes.now i 0 c.loop-byte-test.true (rw (other, lt-ltb b 128 (c.requires i)) refl))

pub returns : goal.returns
returns c = rw (take_all c.loop-byte.byte-index c.args.bytes.now c.loop-byte-test.false) at (sym c.loop-byte.invariant)
