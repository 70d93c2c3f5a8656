use Rattle.std.specs.Prelude.{◌≡◌, Bool, IfSome, Option, take}
use Rattle.std.proofs.Common.{ap, refl, subst, ◌∙◌}
use Rattle.place_list.specs.TableViews.{places_in}
use Rattle.scope_report.proofs.BoundPlaces.{bound_of_place}
use Rattle.scope_report.specs.Rules.{is_shadowing, is_unresolved, is_unused, verdict_on}
use Rattle.scope_tables.specs.Views.{bound_of}
use Rattle.scope_report.specs.declared.verdict.Verdict.{Verdict}
use Rattle.scope_rules.specs.Bindings.{bound, same_name}
use Rattle.scope_tables.specs.FaultsOf.{faults_of}
use Rattle.scope_tables.specs.declared.faults.Faults.{Faults}
use Rattle.tree_places.specs.Places.{Place}
use Rattle.scope_report.proofs.verdict.verdict_at.Goals as goal

same_verdict : {f f' : Faults} {u u' r r' s s' : Bool} → f ≡ f' → u ≡ u' → r ≡ r' → s ≡ s'
    → ◌≡◌ {A = Verdict} (record { faults = f; unused = u; unresolved = r; shadow = s }) (record { faults = f'; unused = u'; unresolved = r'; shadow = s' })
same_verdict p q r s = rw (p, q, r, s) refl

pub returns : goal.returns
unfolding verdict_on
returns c = λ ns p are read.
    let l = c.args.tables.now.list in
    let ps = places_in l in
    let same = bound_of_place l c.args.i p (bound_of l c.bound_place-place.result) read c.bound_place-place.ensures.bound in
    same_verdict
    (subst (λ (o : Option Place). IfSome o (λ q. c.faults_at.result ≡ faults_of ps (take c.args.i ps) q)) read c.faults_at.ensures)
    (c.is_unused.ensures ns (bound same_name ps) are ∙ ap (is_unused ns (bound same_name ps)) same)
    (c.is_unresolved.ensures l ∙ ap is_unresolved same)
    (c.is_shadowing.ensures ∙ ap (is_shadowing ps) same)
