use Rattle.syntax_lex.proofs.Lines.{lines_are_lines, parts_are_ended, parts_join}
use Rattle.syntax_lex.proofs.line_terminator.lines_join_to_the_text.Goals as goal

pub returns-clause-join : goal.returns-clause-join
returns-clause-join c cs = parts_join cs

pub returns-clause-free : goal.returns-clause-free
returns-clause-free c cs = lines_are_lines cs

pub returns-clause-ended : goal.returns-clause-ended
returns-clause-ended c cs = parts_are_ended cs
