use Rattle.std.proofs.Common.{◌/◌, arith}
use Rattle.std.proofs.lemmas.List.{get_or_read}
use Rattle.arena_core.proofs.Words.{has_bit-within, has_bit-past}
use Rattle.arena_core.proofs.bit_set.BitSet.has_bit.Goals as goal

pub returns-then-i-self : goal.returns-then-i-self
returns-then-i-self g c =
    rw (← c.self.view_is)
    (has_bit-within c.self.inside.words.items c.self.inside.len c.args.i c.index.result.now c.if-i-self.true
    (get_or_read c.self.inside.words.items (c.args.i / 64) _ (omega (arith, c.self.invariant.room)) c.index.ensures 0))

pub returns-else-i-self : goal.returns-else-i-self
returns-else-i-self g c = rw (← c.self.view_is) (has_bit-past c.self.inside.words.items c.self.inside.len c.args.i c.if-i-self.false)
