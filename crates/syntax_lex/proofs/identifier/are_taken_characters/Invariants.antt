use Rattle.std.proofs.Common.{◌≡◌}
use Rattle.std.specs.List.{list_all}
use Rattle.std.specs.Str.{IsUtf8, chars}
use Rattle.std.specs.Str.Iter.{chars_rest}
use Rattle.syntax_lex.specs.Identifier.{is_taken_part}
use Rattle.syntax_lex.proofs.identifier.are_taken_characters.Given as goal

abbrev pub invariant-loop-c : goal.invariant-loop-c
invariant-loop-c l =
    IsUtf8 (chars_rest l.c-iterator)
    × (list_all (is_taken_part l.patched) (chars (chars_rest l.c-iterator)) ≡ list_all (is_taken_part l.patched) (chars l.text))
