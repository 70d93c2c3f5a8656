use Rattle.std.specs.List.{list_any}
use Rattle.std.proofs.Common.{sym, ap, ◌∙◌, take_all}
use Rattle.std.proofs.lemmas.List.Folds.{list_any_at}
use Rattle.class_tables.specs.Answers.{undeclared_at}
use Rattle.class_tables.proofs.Seen.{undeclared_any}
use Rattle.class_tables.proofs.bindings.has_undeclared.Goals as goal

pub returns-then-is_undeclared : goal.returns-then-is_undeclared
returns-then-is_undeclared c = λ ps are held.
    let ts = c.args.tables.now in
    let os = c.args.bodies.now in
    sym (list_any_at (undeclared_at ts os) c.args.places.now c.loop-place.place-index _ c.loop-place-test.true (sym c.is_undeclared.ensures ∙ c.if-is_undeclared.true))
    ∙ undeclared_any ts os c.args.places.now ps are held

pub returns : goal.returns
returns c = λ ps are held.
    let ts = c.args.tables.now in
    let os = c.args.bodies.now in
    sym (ap (list_any (undeclared_at ts os)) (sym (take_all c.loop-place.place-index c.args.places.now c.loop-place-test.false)) ∙ c.loop-place.invariant)
    ∙ undeclared_any ts os c.args.places.now ps are held
