use Rattle.std.proofs.Common.{length}
use Rattle.std.specs.Str.Iter.{chars_rest}
use Rattle.oxc_data_structures.proofs.RopeColumns.{IsFitting}
use Rattle.oxc_data_structures.proofs.rope.fitting_len.Given as goal

abbrev pub invariant-loop-ch : goal.invariant-loop-ch
invariant-loop-ch l = IsFitting l.text l.units l.len l.left (chars_rest l.chars)

abbrev pub decreases-loop-ch : goal.decreases-loop-ch
decreases-loop-ch l = length (chars_rest l.chars)
