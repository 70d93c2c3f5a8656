use Rattle.std.proofs.Common.{arith}
use Rattle.arena_core.specs.Words.{flags}
use Rattle.arena_core.proofs.Words.{length-flags}
use Rattle.arena_core.proofs.Members.{members_at-end}
use Rattle.arena_core.proofs.bit_set.OnesIterator.next.Goals as goal

pub returns-in-None-clause-steps : goal.returns-in-None-clause-steps
returns-in-None-clause-steps c =
    let set = flags c.self.inside.words.now c.self.inside.len in
    (rw (← c.self.view_is) c.in-None.ensures.none, members_at-end set c.self.inside.len (omega (arith, length-flags c.self.inside.words.now c.self.inside.len)))
