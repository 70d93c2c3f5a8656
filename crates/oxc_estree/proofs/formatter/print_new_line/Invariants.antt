use Rattle.std.proofs.Common.{◌∷◌, ◌+◌, ◌*◌, ◌≤◌, length, replicate}
use Rattle.oxc_data_structures.specs.CodeBuffer.{Appends}
use Rattle.oxc_estree.proofs.formatter.print_new_line.Given as goal

abbrev pub invariant-loop-level : goal.invariant-loop-level
invariant-loop-level l = record {
  printed : Appends l.fn.buffer l.buffer (10 ∷ replicate (2 * l._level) 32);
  room : length l.buffer.bytes + 2 * l.levels ≤ l.buffer.capacity + 2 * l._level;
}
