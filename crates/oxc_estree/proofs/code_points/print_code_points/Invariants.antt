use Rattle.std.proofs.Common.{ℕ, List, ◌∷◌, length}
use Rattle.oxc_data_structures.specs.CodeBuffer.{Appends}
use Rattle.oxc_estree.proofs.CodePointTexts.{ArePointsUnderWay}
use Rattle.oxc_estree.proofs.code_points.print_code_points.Given as goal

abbrev pub invariant-loop-code_point : goal.invariant-loop-code_point
invariant-loop-code_point g l = record {
  can_next : (goal.iterator-loop-code_point g).can_next l.code_point-iterator;
  finite : (goal.iterator-loop-code_point g).is_finite l.code_point-iterator;
  written : (done : List ℕ) × Appends l.fn.buffer l.buffer (34 ∷ done)
      × ArePointsUnderWay (g.I.CodePoints.code_points l.fn.code_points) done l.lead (length l.yielded);
}
