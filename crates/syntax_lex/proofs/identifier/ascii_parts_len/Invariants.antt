use Rattle.std.proofs.Common.{◌≡◌, ◌≤◌, ◌-◌, true, take, length}
use Rattle.std.specs.List.{list_all}
use Rattle.syntax_lex.specs.Identifier.{is_ascii_part}
use Rattle.syntax_lex.proofs.identifier.ascii_parts_len.Given as goal

abbrev pub invariant-loop-len : goal.invariant-loop-len
invariant-loop-len l = (l.len ≤ length l.bytes) × (list_all is_ascii_part (take l.len l.bytes) ≡ true)

abbrev pub decreases-loop-len : goal.decreases-loop-len
decreases-loop-len l = length l.bytes - l.len
