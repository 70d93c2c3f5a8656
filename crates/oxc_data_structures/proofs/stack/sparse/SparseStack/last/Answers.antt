use Rattle.std.proofs.Common.{refl, ◌∙◌}
use Rattle.oxc_data_structures.proofs.SparseStackLemmas.{mark_read, top_entry}
use Rattle.oxc_data_structures.proofs.stack.sparse.SparseStack.last.Goals as goal

pub returns-then-index : goal.returns-then-index
returns-then-index g c =
    rw (
      ← c.self.view_is,
      top_entry _ _ c.self.invariant,
      mark_read _ _ _ _ (c.len.ensures ∙ c.self.inside.has_values.ok.0) c.self.invariant.not_empty c.index.ensures
          c.if-index.true,
      c.last.ensures.value,
      c.deref.ensures.value,
    )
    refl

pub returns-else-index : goal.returns-else-index
returns-else-index g c =
    rw (
      ← c.self.view_is,
      top_entry _ _ c.self.invariant,
      mark_read _ _ _ _ (c.len.ensures ∙ c.self.inside.has_values.ok.0) c.self.invariant.not_empty c.index.ensures
          c.if-index.false,
    )
    refl
