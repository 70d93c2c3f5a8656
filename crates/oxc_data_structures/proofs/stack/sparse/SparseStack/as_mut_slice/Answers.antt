use Rattle.std.proofs.Common.{sym, ◌∙◌}
use Rattle.std.specs.List.{length_refill}
use Rattle.oxc_data_structures.proofs.SparseStackLemmas.{IsStored-values}
use Rattle.oxc_data_structures.proofs.stack.sparse.SparseStack.as_mut_slice.Goals as goal

pub invariant_of-self-lent : goal.invariant_of-self-lent
invariant_of-self-lent g c w =
    IsStored-values _ _ _ c.self.invariant
    (sym (length_refill c.self.inside.values.len c.self.inside.values.items w c.self.inside.values.ok.0)
    ∙ c.self.inside.values.ok.0)
