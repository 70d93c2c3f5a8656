use Rattle.std.specs.Prelude.{ℕ, Bool, ◌&&◌, Some}
use Rattle.std.specs.List.{list_any}
use Rattle.std.proofs.Common.{sym, ap, subst, ◌∙◌}
use Rattle.place_list.specs.TableViews.{scope_at}
use Rattle.place_list.specs.Tables.{place_of, setting_of, site_of}
use Rattle.scope_rules.specs.Bindings.{same_name}
use Rattle.scope_rules.specs.Faults.{crosses, is_single_at}
use Rattle.scope_rules.specs.Homes.{home}
use Rattle.scope_tables.specs.DeclarationsAt.{single_at}
use Rattle.scope_tables.specs.Views.{IsScope, places_of, site_in}
use Rattle.scope_tables.proofs.Numbers.{home_is_known, scope_is_known}
use Rattle.scope_tables.proofs.Outward.{before_is_below}
use Rattle.scope_tables.proofs.crossing.crosses.Goals as goal
use Rattle.tree_places.specs.Scopes.{Scope, any_below}

pub is_single_below-requires : goal.is_single_below-requires
is_single_below-requires c = record { bounded = c.requires.bounded; scope = scope_is_known c.args.list.now c.args.place.now c.requires }

pub returns-then-declares_var : goal.returns-then-declares_var
unfolding crosses place_of site_of setting_of
returns-then-declares_var c = λ all d j.
    let l = c.args.list.now in
    let q = c.args.place.now in
    let test : Scope → Bool = λ s. list_any (is_single_at same_name q.name.now s) (places_of l all) in
    c.is_single_below.ensures
    ∙ before_is_below l c.requires.bounded (λ (s : ℕ). single_at c.args.declarations.now (Some s) q.name_number) c.home.result (subst (IsScope l) (sym c.home.ensures.number) (home_is_known l q c.requires)) test
    (λ s h. d.single (Some s) h q j) q.setting.scope (scope_is_known l q c.requires)
    ∙ ap (λ (h : Scope). any_below test h (scope_at l q.setting.scope)) (c.home.ensures.scope l)
    ∙ sym (ap (λ (b : Bool). b && any_below test (home (site_in l q)) (scope_at l q.setting.scope)) (sym (c.declares_var.ensures l) ∙ c.if-declares_var.true))

pub returns-else-declares_var : goal.returns-else-declares_var
unfolding crosses place_of
returns-else-declares_var c = λ all d j.
    let l = c.args.list.now in
    let q = c.args.place.now in
    let test : Scope → Bool = λ s. list_any (is_single_at same_name q.name.now s) (places_of l all) in
    c.if-declares_var.false
    ∙ sym (ap (λ (b : Bool). b && any_below test (home (site_in l q)) (site_in l q).setting.scope) (sym (c.declares_var.ensures l) ∙ c.if-declares_var.false))
