use Rattle.std.proofs.Common.{sym, ◌∙◌}
use Rattle.place_list.specs.TableViews.{place_in}
use Rattle.scope_rules.specs.Evals.{is_eval}
use Rattle.kept_names.proofs.AnyPassing.{none_passes, none_passes_further, passing_found}
use Rattle.kept_names.proofs.scope_flags.has_eval.Goals as goal

pub returns-then-is_eval : goal.returns-then-is_eval
returns-then-is_eval c =
    let l = c.args.list.now in
    passing_found (place_in l) is_eval c.args.places.now c.loop-place.place-index _ c.loop-place-test.true (sym (c.is_eval.ensures l) ∙ c.if-is_eval.true)

pub loop-place-preserved : goal.loop-place-preserved
loop-place-preserved c =
    let l = c.args.list.now in
    none_passes_further (place_in l) is_eval c.args.places.now c.loop-place.place-index _ c.loop-place-test.true c.loop-place.invariant (sym (c.is_eval.ensures l) ∙ c.if-is_eval.false)

pub returns : goal.returns
returns c =
    let l = c.args.list.now in
    none_passes (place_in l) is_eval c.args.places.now c.loop-place.place-index c.loop-place-test.false c.loop-place.invariant
