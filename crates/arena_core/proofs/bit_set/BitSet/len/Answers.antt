use Rattle.std.proofs.Common.{sym}
use Rattle.arena_core.proofs.Words.{length-flags}
use Rattle.arena_core.proofs.bit_set.BitSet.len.Goals as goal

pub returns : goal.returns
returns g c = rw (← c.self.view_is) (sym (length-flags _ _))
