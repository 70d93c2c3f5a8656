use Rattle.std.specs.Prelude.{List, map}
use Rattle.std.proofs.Common.{ap, subst, sym, ◌∙◌}
use Rattle.scope_tables.proofs.EachPlace.{faults_are}
use Rattle.scope_tables.proofs.Resolutions.{bindings_alone}
use Rattle.scope_tables.specs.Reach.{AllBoundStand}
use Rattle.scope_tables.specs.Views.{places_of}
use Rattle.scope_tables.specs.declared.bound.BoundPlace.{BoundPlace}
use Rattle.scope_tables.proofs.resolved.resolve.Goals as goal

pub place_faults-requires-clause-bound_stand : goal.place_faults-requires-clause-bound_stand
place_faults-requires-clause-bound_stand c = subst (λ (bs : List BoundPlace). AllBoundStand c.args.list.now bs) (sym c.as_slice.ensures.value) c.in_ok-bound.ensures.stand

pub returns : goal.returns
returns c = record {
  declarations = c.in_ok-declarations.ensures;
  bindings_are = c.in_ok-bindings.ensures ∙ ap (map (λ (b : BoundPlace). b.binding)) c.as_slice-3.ensures.value ∙ bindings_alone c.args.list.now _ (places_of c.args.list.now c.args.places.now) c.in_ok-bound.ensures.bound;
  place_faults_are = c.in_ok-place_faults.ensures;
  faults = faults_are (places_of c.args.list.now c.args.places.now) _ c.of_any-faults.result (c.as_slice-2.ensures.value ∙ c.in_ok-place_faults.ensures) c.of_any-faults.ensures.redeclaration c.of_any-faults.ensures.crossing c.of_any-faults.ensures.sloppy_function c.of_any-faults.ensures.undeclared c.of_any-faults.ensures.reach;
}
