use Rattle.std.proofs.Common.{length}
use Rattle.std.specs.Str.Iter.{chars_rest}
use Rattle.oxc_data_structures.proofs.RopeColumns.{IsCountedTo}
use Rattle.oxc_data_structures.proofs.rope.count_units.Given as goal

abbrev pub invariant-loop-ch : goal.invariant-loop-ch
invariant-loop-ch l = IsCountedTo l.text l.units (chars_rest l.chars)

abbrev pub decreases-loop-ch : goal.decreases-loop-ch
decreases-loop-ch l = length (chars_rest l.chars)
