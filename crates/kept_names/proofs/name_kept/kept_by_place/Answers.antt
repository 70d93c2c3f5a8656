use Rattle.std.specs.Prelude.{map}
use Rattle.std.proofs.Common.{ap, sym, take_all, ◌∙◌}
use Rattle.std.proofs.lemmas.Simd.{map-map}
use Rattle.kept_names.specs.Keeping.{keeping}
use Rattle.kept_names.specs.NamesKept.{keeps_name}
use Rattle.kept_names.specs.Views.{bound_of}
use Rattle.kept_names.specs.declared.bound.BoundPlace.{BoundPlace}
use Rattle.scope_tables.proofs.BindingCases.{mapped_more}
use Rattle.kept_names.proofs.name_kept.kept_by_place.Goals as goal

pub loop-place-preserved : goal.loop-place-preserved
loop-place-preserved c = λ p bs names.
    mapped_more (λ (b : BoundPlace). keeps_name (keeping c.args.names.now.keep) bs (bound_of p b)) c.args.places.now c.loop-place.place-index _ c.loop-place-test.true c.loop-place.kept.items _ (c.loop-place.invariant p bs names) _
    (c.keeps_name.ensures p bs names) c.in_ok-push.ensures.items

pub returns : goal.returns
returns c = λ p bs names.
    c.loop-place.invariant p bs names
    ∙ ap (map (λ (b : BoundPlace). keeps_name (keeping c.args.names.now.keep) bs (bound_of p b))) (take_all c.loop-place.place-index c.args.places.now c.loop-place-test.false)
    ∙ sym (map-map (keeps_name (keeping c.args.names.now.keep) bs) (bound_of p) c.args.places.now)
