use Rattle.std.proofs.Common.{arith}
use Rattle.oxc_data_structures.proofs.RopeColumns.{IsCountedTo-at_end, IsCountedTo-next, len_utf16-is, units_of-le-length, units_past_char}
use Rattle.oxc_data_structures.proofs.rope.count_units.Goals as goal

pub overflow_add-units : goal.overflow_add-units
overflow_add-units c =
    omega (
      arith,
      c.requires,
      c.loop-ch.invariant.total,
      units_past_char _ _ _ c.loop-ch.invariant.utf8 c.in-Some.ensures.steps.0,
      units_of-le-length _ c.utf8.text,
      len_utf16-is _ _ c.len_utf16.ensures.bmp c.len_utf16.ensures.surrogate_pair,
    )

pub loop-ch-preserved : goal.loop-ch-preserved
loop-ch-preserved c =
    IsCountedTo-next _ _ _ _ _ _ c.loop-ch.invariant c.in-Some.ensures.steps.0
    (len_utf16-is _ _ c.len_utf16.ensures.bmp c.len_utf16.ensures.surrogate_pair)

pub returns : goal.returns
returns c = IsCountedTo-at_end _ _ _ c.loop-ch.invariant c.in_default.ensures.steps.0.0
