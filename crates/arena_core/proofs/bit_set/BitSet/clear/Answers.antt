use Rattle.std.proofs.Common.{◌∙◌, ap, sym, replicate, false}
use Rattle.arena_core.proofs.Words.{length-flags, flags-zeros}
use Rattle.arena_core.proofs.bit_set.BitSet.clear.Goals as goal

pub returns : goal.returns
returns g c =
    rw (← c.self.view_is, c.fill.ensures.items (λ y e. e)) (flags-zeros _ _ ∙ ap (λ n. replicate n false) (sym (length-flags _ _)))
