use Rattle.std.proofs.Common.{refl, sym, ◌∙◌, arith}
use Rattle.oxc_data_structures.proofs.SparseStackLemmas.{absent_stays, mark_read, taken, top_entry}
use Rattle.oxc_data_structures.proofs.stack.sparse.SparseStack.take_last.Goals as goal

pub invariant_of-self : goal.invariant_of-self
invariant_of-self g c =
    rw (c.len-last.ensures, c.self.inside.has_values.ok.0)
    (taken _ _ _ _ c.self.invariant
    (mark_read _ _ _ _ (c.len-last.ensures ∙ c.self.inside.has_values.ok.0) c.self.invariant.not_empty c.index.ensures
    c.if-index.true)
    c.pop.ensures.items (λ some. c.pop.ensures.variant.1 (omega arith))).stored

pub returns-then-index-clause-value : goal.returns-then-index-clause-value
returns-then-index-clause-value g c =
    rw (← c.self.view_is)
    (taken _ _ _ _ c.self.invariant
    (mark_read _ _ _ _ (c.len-last.ensures ∙ c.self.inside.has_values.ok.0) c.self.invariant.not_empty c.index.ensures
    c.if-index.true)
    c.pop.ensures.items (λ some. c.pop.ensures.variant.1 (omega arith))).value

pub returns-then-index-clause-items : goal.returns-then-index-clause-items
returns-then-index-clause-items g c =
    rw (← c.self.view_is, c.len-last.ensures, c.self.inside.has_values.ok.0)
    (taken _ _ _ _ c.self.invariant
    (mark_read _ _ _ _ (c.len-last.ensures ∙ c.self.inside.has_values.ok.0) c.self.invariant.not_empty c.index.ensures
    c.if-index.true)
    c.pop.ensures.items (λ some. c.pop.ensures.variant.1 (omega arith))).items

pub returns-else-index-clause-value : goal.returns-else-index-clause-value
returns-else-index-clause-value g c =
    rw (
      ← c.self.view_is,
      top_entry _ _ c.self.invariant,
      mark_read _ _ _ _ (c.len-last.ensures ∙ c.self.inside.has_values.ok.0) c.self.invariant.not_empty c.index.ensures
          c.if-index.false,
    )
    refl

pub returns-else-index-clause-items : goal.returns-else-index-clause-items
returns-else-index-clause-items g c =
    rw (← c.self.view_is)
    (sym (absent_stays _ _ c.self.invariant
    (mark_read _ _ _ _ (c.len-last.ensures ∙ c.self.inside.has_values.ok.0) c.self.invariant.not_empty c.index.ensures
    c.if-index.false)))
