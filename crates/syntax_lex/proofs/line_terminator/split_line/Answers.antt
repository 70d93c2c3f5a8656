use Rattle.std.proofs.Common.{◌≡◌, ◌≢◌, ◌∙◌, List, [], ◌∷◌, ◌++◌, length, map, ap, sym, arith}
use Rattle.std.proofs.StrCases.{chars_of_empty}
use Rattle.std.proofs.lemmas.List.{append-nil, nil_from_length}
use Rattle.std.proofs.lemmas.Str.{chars-nil, chars_past_char}
use Rattle.std.specs.Char.{encode_utf8}
use Rattle.std.specs.Str.{chars}
use Rattle.std.specs.Str.Iter.{chars_rest}
use Rattle.syntax_lex.specs.LineTerminator.{Part, parts_of}
use Rattle.syntax_lex.proofs.Lines.{IsInLine-cut, IsInLine-line, IsInLine-start, IsInLine-step, length_of_no_chars, lines_at_end, lines_at_terminator, slice_range_front}
use Rattle.syntax_lex.proofs.line_terminator.split_line.Goals as goal

pub loop-c-init : goal.loop-c-init
loop-c-init c = ([], IsInLine-start c.args.text.now _ c.utf8.text c.chars-chars.ensures.rest)

pub range-requires-clause-end_boundary : goal.range-requires-clause-end_boundary
range-requires-clause-end_boundary c =
    IsInLine-cut c.args.text.now c.loop-c.invariant.0 _ c.loop-c.end c.utf8.text c.loop-c.invariant.1

pub returns-then-is_line_terminator : goal.returns-then-is_line_terminator
returns-then-is_line_terminator c =
    let h = c.loop-c.invariant.1 in
    let line = c.loop-c.invariant.0 in
    let parts = c.in-Some.ensures.steps.0 ∙ ap (λ rest. encode_utf8 c.in-Some.c ++ rest) (sym c.as_str.ensures) in
    let text : chars c.args.text.now ≡ line ++ c.in-Some.c ∷ chars c.as_str.result.now =
    h.all ∙ ap (λ cs. line ++ cs) (chars_past_char (chars_rest c.loop-c.chars) c.as_str.result.now c.in-Some.c h.utf8 parts) in
    let front : chars c.range.result.now ≡ line =
    ap chars (c.range.ensures.value ∙ slice_range_front c.args.text.now c.loop-c.end)
    ∙ IsInLine-line c.args.text.now line _ c.loop-c.end c.utf8.text h in
    let ends = sym c.is_line_terminator.ensures ∙ c.if-is_line_terminator.true in
    let lines = lines_at_terminator line c.in-Some.c (chars c.as_str.result.now) h.free ends in
    let rest = ap (λ (parts : List Part). map (λ (part : Part). part.line) parts) c.past_terminator.ensures in
    rw (text, front, rest) lines

pub overflow_add-end : goal.overflow_add-end
overflow_add-end c =
    let line = c.loop-c.invariant.0 in
    let other = sym c.is_line_terminator.ensures ∙ c.if-is_line_terminator.false in
    let after = IsInLine-step c.args.text.now line _ _ c.loop-c.end _ c.in-Some.c c.loop-c.invariant.1 c.in-Some.ensures.steps.0 c.len_utf8-end.ensures.value other in
    omega (arith, after.within)

pub loop-c-preserved : goal.loop-c-preserved
loop-c-preserved c =
    let line = c.loop-c.invariant.0 in
    let other = sym c.is_line_terminator.ensures ∙ c.if-is_line_terminator.false in (
      line ++ c.in-Some.c ∷ [],
      IsInLine-step c.args.text.now line _ _ c.loop-c.end _ c.in-Some.c c.loop-c.invariant.1 c.in-Some.ensures.steps.0 c.len_utf8-end.ensures.value other,
    )

pub returns : goal.returns
unfolding parts_of
returns c =
    let h = c.loop-c.invariant.1 in
    let line = c.loop-c.invariant.0 in
    let none = chars_of_empty (chars_rest c.loop-c.chars) c.in_default.ensures.steps.0.0 in
    let all : chars c.args.text.now ≡ line = h.all ∙ rw none (append-nil line) in
    let some : length line ≢ 0 = λ e. c.requires (length_of_no_chars c.args.text.now c.utf8.text (all ∙ nil_from_length line e)) in
    rw (all, chars-nil) (lines_at_end line h.free some)
