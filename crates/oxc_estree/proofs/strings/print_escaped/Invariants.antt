use Rattle.std.proofs.Common.{length, take, flat_map, ◌-◌}
use Rattle.std.specs.Str.{IsCharBoundary}
use Rattle.oxc_data_structures.specs.CodeBuffer.{Appends}
use Rattle.oxc_estree.specs.Escapes.{byte_text}
use Rattle.oxc_estree.proofs.strings.print_escaped.Given as goal

abbrev pub invariant-loop-start : goal.invariant-loop-start
invariant-loop-start l = record {
  printed : Appends l.fn.buffer l.buffer (flat_map byte_text (take l.start l.text));
  boundary : IsCharBoundary l.text l.start;
}

abbrev pub decreases-loop-start : goal.decreases-loop-start
decreases-loop-start l = length l.text - l.start
