use Rattle.std.specs.Prelude.{Bool, not, ◌&&◌, is_some}
use Rattle.std.proofs.Common.{sym, ap, ◌∙◌}
use Rattle.place_list.specs.TableViews.{place_in}
use Rattle.place_list.specs.Tables.{place_of, site_of}
use Rattle.scope_rules.specs.Bindings.{same_name}
use Rattle.scope_rules.specs.Faults.{is_undeclared}
use Rattle.scope_rules.specs.PrivateNames.{private_binding}
use Rattle.scope_tables.specs.Views.{places_of}
use Rattle.scope_tables.proofs.PrivatePlaces.{not_flips}
use Rattle.scope_tables.proofs.undeclared.is_undeclared.Goals as goal

pub returns-then-place : goal.returns-then-place
unfolding is_undeclared place_of site_of
returns-then-place c = λ all holds j.
    let l = c.args.list.now in
    let q = c.args.place.now in
    not_flips _ _ c.is_none.ensures
    ∙ ap (λ o. not (is_some o)) (c.private_binding.ensures all holds j)
    ∙ sym (ap (λ (b : Bool). b && not (is_some (private_binding same_name (places_of l all) (place_in l q)))) c.if-place.true)

pub returns-else-place : goal.returns-else-place
unfolding is_undeclared place_of site_of
returns-else-place c = λ all holds j.
    let l = c.args.list.now in
    let q = c.args.place.now in
    c.if-place.false
    ∙ sym (ap (λ (b : Bool). b && not (is_some (private_binding same_name (places_of l all) (place_in l q)))) c.if-place.false)
