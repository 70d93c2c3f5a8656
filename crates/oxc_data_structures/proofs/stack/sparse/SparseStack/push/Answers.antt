use Rattle.std.proofs.Common.{Some, None, arith}
use Rattle.std.proofs.lemmas.List.{append-nil}
use Rattle.oxc_data_structures.proofs.SparseStackLemmas.{pushed}
use Rattle.oxc_data_structures.proofs.stack.sparse.SparseStack.push.Goals as goal

pub invariant_of-self-in-Some : goal.invariant_of-self-in-Some
invariant_of-self-in-Some g c =
    rw (c.push_reserved.ensures.items, c.in_ok-reserve.ensures.items, c.in_ok-push-in-Some.ensures.items)
    (pushed _ _ (Some c.in-Some.value) c.self.invariant).stored

pub invariant_of-self-in-None : goal.invariant_of-self-in-None
invariant_of-self-in-None g c =
    rw (c.push_reserved-in-None.ensures.items, c.in_ok-reserve.ensures.items)
    (rw append-nil at (pushed _ c.self.inside.values.items None c.self.invariant).stored)

pub returns-in_ok-push-in-Some-clause-ok : goal.returns-in_ok-push-in-Some-clause-ok
returns-in_ok-push-in-Some-clause-ok g c =
    rw (
      ← c.self.view_is,
      c.in-Some.is,
      c.push_reserved.ensures.items,
      c.in_ok-reserve.ensures.items,
      c.in_ok-push-in-Some.ensures.items,
    )
    (record {
      entries = (pushed _ _ (Some c.in-Some.value) c.self.invariant).items;
      total_capacity = omega (arith, c.in_ok-reserve.ensures.capacity, c.push_reserved.ensures.capacity);
      filled_capacity = c.in_ok-push-in-Some.ensures.capacity;
    })

pub returns-in-None-clause-ok : goal.returns-in-None-clause-ok
returns-in-None-clause-ok g c =
    rw
    (← c.self.view_is, c.in-None.is, c.push_reserved-in-None.ensures.items, c.in_ok-reserve.ensures.items)
    (record {
      entries = rw append-nil at (pushed _ c.self.inside.values.items None c.self.invariant).items;
      total_capacity = omega (arith, c.in_ok-reserve.ensures.capacity, c.push_reserved-in-None.ensures.capacity);
      filled_capacity = omega arith;
    })
