use Rattle.std.proofs.Common.{◌<◌, length, Some, refl, ap, ◌∙◌, arith}
use Rattle.std.proofs.lemmas.List.{length-set}
use Rattle.oxc_data_structures.proofs.SparseStackLemmas.{FillsTop-after_room, IsFilledTop-from_fills, IsStored-values, top_replaced, value_read, values_some, with_top-filled}
use Rattle.oxc_data_structures.specs.SparseStack.{with_top}
use Rattle.oxc_data_structures.proofs.stack.sparse.SparseStack.last_mut_or_init.Goals as goal

pub overflow_sub-last : goal.overflow_sub-last
overflow_sub-last g c =
    let top = IsFilledTop-from_fills _ _ _ _ _ _ c.self.invariant (ap (λ s. s.items) c.self.view_is) c.fill_last.ensures.1 in
    let some : 0 < length c.self.inside.values.items = values_some _ _ c.self.invariant top.filled in
    omega arith

pub index_mut-requires : goal.index_mut-requires
index_mut-requires g c =
    let top = IsFilledTop-from_fills _ _ _ _ _ _ c.self.invariant (ap (λ s. s.items) c.self.view_is) c.fill_last.ensures.1 in
    let some : 0 < length c.self.inside.values.items = values_some _ _ c.self.invariant top.filled in
    omega arith

pub invariant_of-self-lent : goal.invariant_of-self-lent
invariant_of-self-lent g c w = IsStored-values _ _ _ c.self.invariant (length-set _ _ _)

pub returns : goal.returns
returns g c =
    let fills = FillsTop-after_room _ _ _ _ _ c.in_ok-reserve_last.ensures.entries c.fill_last.ensures.1 in
    let top = IsFilledTop-from_fills _ _ _ _ _ _ c.self.invariant (ap (λ s. s.items) c.self.view_is) fills in
    let len = c.len-last.ensures ∙ c.self.inside.values.ok.0 in
    let read = value_read _ _ _ _ _ c.self.invariant top len c.index_mut.ensures.value in (
      (
        refl,
        (λ w _. record {
          entries =
              rw len
              (top_replaced _ _ c.self.invariant top.filled w
              ∙ ap (λ s. with_top s (Some w)) c.self.view_is ∙ with_top-filled _ _ _ _ _ fills);
          total_capacity = omega (arith, fills.becomes.total_capacity, ap (λ s. s.total_capacity) c.self.view_is);
          filled_capacity = omega (arith, fills.becomes.filled_capacity, ap (λ s. s.filled_capacity) c.self.view_is);
        }),
        tt,
      ),
      record { writes_back = tt; value = rw read fills.value_is; succeeds = λ _. refl },
    )
