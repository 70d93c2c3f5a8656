use Rattle.oxc_data_structures.proofs.RopeColumns.{IsFitting-next, IsFitting-start, IsFittingLen-stopped, len_utf16-is}
use Rattle.oxc_data_structures.proofs.rope.fitting_len.Goals as goal

pub loop-ch-init : goal.loop-ch-init
loop-ch-init c = rw c.chars-chars.ensures.rest (IsFitting-start _ _ c.utf8.text)

pub loop-ch-preserved : goal.loop-ch-preserved
loop-ch-preserved c =
    rw c.len_utf8.ensures.value
    (IsFitting-next _ _ _ _ _ _ _ _ c.utf8.text c.loop-ch.invariant c.in-Some.ensures.steps.0
    (len_utf16-is _ _ c.len_utf16-needed.ensures.bmp c.len_utf16-needed.ensures.surrogate_pair) c.if-needed-left.false)

pub returns-then-needed-left : goal.returns-then-needed-left
returns-then-needed-left c =
    IsFittingLen-stopped _ _ _ _ _ _ _ _ c.utf8.text c.loop-ch.invariant c.in-Some.ensures.steps.0
    (len_utf16-is _ _ c.len_utf16-needed.ensures.bmp c.len_utf16-needed.ensures.surrogate_pair) c.if-needed-left.true
