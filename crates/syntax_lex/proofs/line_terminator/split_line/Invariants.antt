use Rattle.std.proofs.Common.{ℕ, List}
use Rattle.std.specs.Str.Iter.{chars_rest}
use Rattle.syntax_lex.proofs.Lines.{IsInLine}
use Rattle.syntax_lex.proofs.line_terminator.split_line.Given as goal

abbrev pub invariant-loop-c : goal.invariant-loop-c
invariant-loop-c l = (line : List ℕ) × IsInLine l.text l.end line (chars_rest l.chars)
