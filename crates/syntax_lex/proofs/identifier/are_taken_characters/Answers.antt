use Rattle.std.proofs.Common.{sym, ◌∙◌}
use Rattle.std.proofs.StrCases.{chars_of_empty}
use Rattle.std.proofs.lemmas.Str.{IsUtf8-past_char, chars_past_char}
use Rattle.syntax_lex.proofs.identifier.are_taken_characters.Goals as goal

pub returns-then-not-is_taken_part : goal.returns-then-not-is_taken_part
returns-then-not-is_taken_part c =
    let held = c.loop-c.invariant in
    let step = chars_past_char _ _ c.in-Some.c held.0 c.in-Some.ensures.steps.0 in
    let fails = sym c.is_taken_part.ensures ∙ c.if-not-is_taken_part.true in
    rw (step, fails) at held.1

pub loop-c-preserved : goal.loop-c-preserved
loop-c-preserved c =
    let held = c.loop-c.invariant in
    let parts = c.in-Some.ensures.steps.0 in
    let passes = sym c.is_taken_part.ensures ∙ c.if-not-is_taken_part.false in
    (IsUtf8-past_char _ _ c.in-Some.c held.0 parts, rw (chars_past_char _ _ c.in-Some.c held.0 parts, passes) at held.1)

pub returns : goal.returns
returns c = rw (chars_of_empty _ c.in-None.ensures.steps.0.0) at c.loop-c.invariant.1
