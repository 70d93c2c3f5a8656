use Rattle.std.proofs.Common.{sym, ◌∙◌, ap, ◌++◌, length, refl}
use Rattle.std.proofs.StrCases.{chars_of_empty}
use Rattle.std.proofs.lemmas.Str.{chars_past_char}
use Rattle.std.specs.Char.{encode_utf8}
use Rattle.std.specs.Str.{chars}
use Rattle.std.specs.Str.Iter.{chars_rest}
use Rattle.syntax_lex.specs.Identifier.{is_identifier_name}
use Rattle.syntax_lex.proofs.Names.{taken_characters}
use Rattle.syntax_lex.proofs.identifier.is_identifier_name_impl.Goals as goal

pub returns-then-is_taken_start : goal.returns-then-is_taken_start
unfolding is_identifier_name
returns-then-is_taken_start c =
    let parts = sym c.chars-chars.ensures.rest ∙ c.in-Some.ensures.steps.0
    ∙ ap (λ rest. encode_utf8 c.in-Some.first ++ rest) (sym c.as_str.ensures) in
    let passes = sym c.is_taken_start.ensures ∙ c.if-is_taken_start.true in
    let both = taken_characters c.args.patched c.in-Some.first (chars c.as_str.result.now) in
    rw (chars_past_char c.args.name.now c.as_str.result.now c.in-Some.first c.utf8.name parts)
    (c.are_taken_parts.ensures ∙ (rw passes at both))

pub returns-else-is_taken_start : goal.returns-else-is_taken_start
unfolding is_identifier_name
returns-else-is_taken_start c =
    let parts = sym c.chars-chars.ensures.rest ∙ c.in-Some.ensures.steps.0 in
    let fails = sym c.is_taken_start.ensures ∙ c.if-is_taken_start.false in
    let both = taken_characters c.args.patched c.in-Some.first (chars (chars_rest c.next.new.self)) in
    rw (chars_past_char c.args.name.now (chars_rest c.next.new.self) c.in-Some.first c.utf8.name parts)
    (c.if-is_taken_start.false ∙ (rw fails at both))

pub returns-in-None : goal.returns-in-None
unfolding is_identifier_name
returns-in-None c =
    let none = sym (ap length c.chars-chars.ensures.rest) ∙ c.in-None.ensures.steps.0.0 in
    rw (chars_of_empty c.args.name.now none) refl
