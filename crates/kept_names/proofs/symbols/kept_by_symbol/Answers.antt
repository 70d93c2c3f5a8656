use Rattle.std.specs.Prelude.{List, filter, map}
use Rattle.std.proofs.Common.{ap, take_all, ◌∙◌}
use Rattle.kept_names.proofs.SymbolsKept.{passing_more}
use Rattle.kept_names.specs.Keeping.{keeping}
use Rattle.kept_names.specs.Views.{bound_of}
use Rattle.kept_names.specs.declared.bound.BoundPlace.{BoundPlace}
use Rattle.name_rules.specs.Kept.{name_kept}
use Rattle.scope_rules.specs.Bindings.{is_binding}
use Rattle.kept_names.proofs.symbols.kept_by_symbol.Goals as goal

pub loop-place-preserved : goal.loop-place-preserved
loop-place-preserved c = λ p bs names.
    passing_more (bound_of p) is_binding (name_kept (keeping c.args.names.now.keep) bs) c.args.places.now c.loop-place.place-index _ c.loop-place-test.true c.loop-place.kept.items _
    (c.loop-place.invariant p bs names) (c.in_ok-push_kept.ensures p bs names)

pub returns : goal.returns
returns c = λ p bs names.
    c.loop-place.invariant p bs names
    ∙ ap (λ (xs : List BoundPlace). map (name_kept (keeping c.args.names.now.keep) bs) (filter is_binding (map (bound_of p) xs))) (take_all c.loop-place.place-index c.args.places.now c.loop-place-test.false)
