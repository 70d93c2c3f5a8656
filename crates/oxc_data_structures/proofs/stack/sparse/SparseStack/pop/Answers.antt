use Rattle.std.proofs.Common.{ap, sym, ◌∙◌, arith}
use Rattle.oxc_data_structures.proofs.SparseStackLemmas.{popped_filled, popped_absent}
use Rattle.oxc_data_structures.proofs.stack.sparse.SparseStack.pop.Goals as goal

pub invariant_of-self : goal.invariant_of-self
invariant_of-self g c =
    (popped_filled _ _ _ _ _ _ c.self.invariant c.take_last.ensures.items c.if-take_last.true c.pop.ensures.items
    (λ some. c.pop.ensures.variant.1 (omega arith))).stored
    (rw (ap (λ s. s.items) c.self.view_is) c.requires)

pub returns-then-take_last-clause-items : goal.returns-then-take_last-clause-items
returns-then-take_last-clause-items g c =
    sym (ap (λ s. s.items) c.self.view_is)
    ∙ (popped_filled _ _ _ _ _ _ c.self.invariant c.take_last.ensures.items c.if-take_last.true c.pop.ensures.items
    (λ some. c.pop.ensures.variant.1 (omega arith))).items

pub invariant_of-self-else-take_last : goal.invariant_of-self-else-take_last
invariant_of-self-else-take_last g c =
    (popped_absent _ _ _ _ c.self.invariant c.take_last.ensures.items c.if-take_last.false).stored
    (rw (ap (λ s. s.items) c.self.view_is) c.requires)

pub returns-else-take_last-clause-items : goal.returns-else-take_last-clause-items
returns-else-take_last-clause-items g c =
    sym (ap (λ s. s.items) c.self.view_is)
    ∙ (popped_absent _ _ _ _ c.self.invariant c.take_last.ensures.items c.if-take_last.false).items
