use Rattle.std.proofs.Common.{◌≡◌, ◌∙◌, [], ap, length, sym}
use Rattle.std.proofs.StrCases.{chars_of_empty}
use Rattle.std.proofs.lemmas.Bool.{eqb-true}
use Rattle.syntax_lex.specs.LineTerminator.{lines_left, lines_of, text_left}
use Rattle.syntax_lex.proofs.Lines.{lines_of_nothing}
use Rattle.syntax_lex.proofs.line_terminator.LineTerminatorSplitterIterator.next.Goals as goal

pub returns-then-is_empty-clause-steps : goal.returns-then-is_empty-clause-steps
returns-then-is_empty-clause-steps c =
    let text = text_left c.args.self.now in
    let empty = eqb-true (length text) 0 (sym c.is_empty.ensures ∙ c.if-is_empty.true) in
    let none : lines_left c.args.self.now ≡ [] = ap lines_of (chars_of_empty text empty) ∙ lines_of_nothing in
    (none, none)
