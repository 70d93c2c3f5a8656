use Rattle.std.proofs.Common.{◌∷◌, flat_map}
use Rattle.json_text.specs.Strings.{char_text}
use Rattle.oxc_data_structures.specs.CodeBuffer.{Appends}
use Rattle.oxc_estree_tests.proofs.plain_strings.print_quoted_by_chars.Given as goal

abbrev pub invariant-loop-c : goal.invariant-loop-c
invariant-loop-c l = Appends l.fn.buffer l.buffer (34 ∷ flat_map char_text l.yielded)
