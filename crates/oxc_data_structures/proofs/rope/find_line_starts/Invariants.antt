use Rattle.std.proofs.Common.{length}
use Rattle.std.specs.Str.Iter.{chars_rest}
use Rattle.oxc_data_structures.proofs.RopeLemmas.{IsScanned}
use Rattle.oxc_data_structures.proofs.rope.find_line_starts.Given as goal

abbrev pub invariant-loop-ch : goal.invariant-loop-ch
invariant-loop-ch l = IsScanned l.text l.starts.items l.offset (chars_rest l.chars)

abbrev pub decreases-loop-ch : goal.decreases-loop-ch
decreases-loop-ch l = length (chars_rest l.chars)
