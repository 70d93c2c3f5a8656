use Rattle.std.proofs.Common.{◌≡◌, true, take}
use Rattle.std.specs.List.{list_all}
use Rattle.syntax_lex.specs.Identifier.{is_ascii_part}
use Rattle.syntax_lex.proofs.identifier.are_ascii_parts.Given as goal

abbrev pub invariant-loop-byte : goal.invariant-loop-byte
invariant-loop-byte l = list_all is_ascii_part (take l.byte-index l.bytes) ≡ true
