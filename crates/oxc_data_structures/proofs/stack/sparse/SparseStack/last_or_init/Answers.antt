use Rattle.std.proofs.Common.{◌<◌, length, refl, ap, ◌∙◌, arith}
use Rattle.oxc_data_structures.proofs.SparseStackLemmas.{FillsTop-after_room, IsFilledTop-from_fills, value_read, values_some}
use Rattle.oxc_data_structures.proofs.stack.sparse.SparseStack.last_or_init.Goals as goal

pub overflow_sub-last : goal.overflow_sub-last
overflow_sub-last g c =
    let top = IsFilledTop-from_fills _ _ _ _ _ _ c.self.invariant (ap (λ s. s.items) c.self.view_is) c.fill_last.ensures.1 in
    let some : 0 < length c.self.inside.values.items = values_some _ _ c.self.invariant top.filled in
    omega arith

pub index-requires : goal.index-requires
index-requires g c =
    let top = IsFilledTop-from_fills _ _ _ _ _ _ c.self.invariant (ap (λ s. s.items) c.self.view_is) c.fill_last.ensures.1 in
    let some : 0 < length c.self.inside.values.items = values_some _ _ c.self.invariant top.filled in
    omega arith

pub returns : goal.returns
returns g c =
    let fills = FillsTop-after_room _ _ _ _ _ c.in_ok-reserve_last.ensures.entries c.fill_last.ensures.1 in
    let top = IsFilledTop-from_fills _ _ _ _ _ _ c.self.invariant (ap (λ s. s.items) c.self.view_is) fills in
    let read = value_read _ _ _ _ _ c.self.invariant top (c.len-last.ensures ∙ c.self.inside.values.ok.0) c.index.ensures in
    ((refl, (λ _. tt), rw (c.self.view_is, read) fills), record { fills = tt; value = rw read fills.value_is; succeeds = λ _. refl })
