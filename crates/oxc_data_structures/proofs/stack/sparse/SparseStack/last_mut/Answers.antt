use Rattle.std.proofs.Common.{refl, ◌∙◌, ◌<◌, length, arith}
use Rattle.std.proofs.lemmas.List.{length-set}
use Rattle.oxc_data_structures.proofs.ListLemmas.{option_copied_mut-last}
use Rattle.oxc_data_structures.proofs.SparseStackLemmas.{IsStored-values, mark_read, values_some, top_entry, top_replaced}
use Rattle.oxc_data_structures.proofs.stack.sparse.SparseStack.last_mut.Goals as goal

pub invariant_of-self-lent : goal.invariant_of-self-lent
invariant_of-self-lent g c _ =
    (λ w. IsStored-values _ _ _ c.self.invariant (length-set _ _ _), c.self.invariant)

pub returns-then-index : goal.returns-then-index
returns-then-index g c =
    let filled = mark_read _ _ _ _ (c.len.ensures ∙ c.self.inside.has_values.ok.0) c.self.invariant.not_empty c.index.ensures c.if-index.true in
    rw (← c.self.view_is) (
      simp (c.self.inside.values.ok.0, top_replaced _ _ c.self.invariant filled) refl,
      record {
        writes_back = tt;
        value =
            let some : 0 < length c.self.inside.values.items = values_some _ _ c.self.invariant filled in
            rw (top_entry _ _ c.self.invariant, filled) (option_copied_mut-last _ _ _ c.self.inside.values.ok.0 some
            (c.last_mut.ensures.variant.1 (omega arith)) c.last_mut.ensures.value);
      },
    )

pub returns-else-index : goal.returns-else-index
returns-else-index g c =
    rw (← c.self.view_is) (
      refl,
      record {
        writes_back = tt;
        value = rw (
          top_entry _ _ c.self.invariant,
          mark_read _ _ _ _ (c.len.ensures ∙ c.self.inside.has_values.ok.0) c.self.invariant.not_empty c.index.ensures c.if-index.false,
        )
            refl;
      },
    )
