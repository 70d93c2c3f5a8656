use Rattle.std.proofs.Common.{◌++◌, ◌∙◌, ap, sym}
use Rattle.std.proofs.lemmas.Str.{chars_past_char}
use Rattle.std.specs.Char.{encode_utf8}
use Rattle.syntax_lex.proofs.line_terminator.past_line_feed.Goals as goal

pub returns-in-Some : goal.returns-in-Some
returns-in-Some c =
    let parts = sym c.chars-chars.ensures.rest ∙ c.in-Some.ensures.steps.0
    ∙ ap (λ rest. encode_utf8 c.in-Some.c ++ rest) (sym c.as_str.ensures) in
    rw c.if-c-eq-LF.true at (chars_past_char c.args.text.now c.as_str.result.now c.in-Some.c c.utf8.text parts)
