use Rattle.std.proofs.Common.{◌≡◌, ◌<◌, ◌/◌, length, get_or, arith}
use Rattle.std.proofs.lemmas.List.{get_or_read}
use Rattle.arena_core.proofs.Words.{length-flags, AreWordsOf-set, flags-set}
use Rattle.arena_core.proofs.bit_set.BitSet.set_bit.Goals as goal

pub index_mut-requires : goal.index_mut-requires
index_mut-requires g c =
    let below = rw (← c.self.view_is, length-flags) at c.requires in
    omega (arith, c.self.invariant.room)

pub invariant_of-self : goal.invariant_of-self
invariant_of-self g c =
    let below = rw (← c.self.view_is, length-flags) at c.requires in
    let within : c.args.i / 64 < length c.self.inside.words.items = omega (arith, c.self.invariant.room) in
    let word : c.index_mut.result.now ≡ get_or c.self.inside.words.items (c.args.i / 64) 0 = get_or_read _ _ _ within c.index_mut.ensures.value 0 in
    rw word (AreWordsOf-set c.self.inside.words.items c.args.i within c.self.inside.len below c.self.invariant)

pub returns : goal.returns
returns g c =
    let below = rw (← c.self.view_is, length-flags) at c.requires in
    let within : c.args.i / 64 < length c.self.inside.words.items = omega (arith, c.self.invariant.room) in
    let word : c.index_mut.result.now ≡ get_or c.self.inside.words.items (c.args.i / 64) 0 = get_or_read _ _ _ within c.index_mut.ensures.value 0 in
    rw (word, ← c.self.view_is) (flags-set c.self.inside.words.items c.args.i within c.self.inside.len)
