use Rattle.std.proofs.Common.{refl}
use Rattle.scope_tables.specs.declared.bound.BoundPlace.{BoundPlace}
use Rattle.scope_tables.proofs.BindingCases.{mapped_more}
use Rattle.scope_tables.proofs.resolved.bindings_of.Goals as goal

pub loop-place-preserved : goal.loop-place-preserved
loop-place-preserved c =
    mapped_more (λ (b : BoundPlace). b.binding) c.args.places.now c.loop-place.place-index _ c.loop-place-test.true c.loop-place.bindings.items _ c.loop-place.invariant _ refl c.in_ok-push.ensures.items
