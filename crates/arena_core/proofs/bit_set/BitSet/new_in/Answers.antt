use Rattle.arena_core.proofs.Words.{flags-zeros}
use Rattle.arena_core.proofs.bit_set.BitSet.new_in.Goals as goal

pub returns : goal.returns
returns g c =
    let zeros = c.in_ok-vec.ensures.items_if_clones_equal (λ y e. e) in
    rw zeros (flags-zeros _ _)
