use Rattle.std.specs.Prelude.{ℕ, Bool, List, Some, is_some}
use Rattle.std.specs.List.{list_any}
use Rattle.std.proofs.Common.{ap, subst, sym, ◌∙◌}
use Rattle.place_list.specs.TableViews.{places_in, scope_at}
use Rattle.place_list.specs.Tables.{place_of}
use Rattle.scope_report.proofs.OuterScopes.{some_binder, some_outwards}
use Rattle.scope_report.specs.Rules.{any_outwards, declares_in, is_declared_outside, outside}
use Rattle.scope_rules.specs.Bindings.{binder, same_name}
use Rattle.scope_tables.proofs.Numbers.{home_is_known}
use Rattle.scope_tables.proofs.Outward.{nearest_is_first_outwards}
use Rattle.scope_tables.proofs.Resolutions.{all_places}
use Rattle.scope_tables.specs.DeclarationsAt.{binder_at}
use Rattle.scope_tables.specs.Views.{IsScope, places_of}
use Rattle.tree_places.specs.Places.{Place}
use Rattle.tree_places.specs.Scopes.{Scope, first_outwards}
use Rattle.scope_report.proofs.shadow.is_declared_outside.Goals as goal

pub outer_scope-outer-requires-clause-scope : goal.outer_scope-outer-requires-clause-scope
outer_scope-outer-requires-clause-scope c =
    let l = c.args.tables.now.list in
    subst (IsScope l) (sym c.home.ensures.number) (home_is_known l c.args.place.now c.requires.stands)

pub returns : goal.returns
unfolding is_declared_outside place_of
returns c =
    let l = c.args.tables.now.list in
    let q = c.args.place.now in
    let es = l.places.items in
    let outer = c.outer_scope-outer.result in
    let test : Scope → Bool = λ h. list_any (declares_in q.name.now h) (places_in l) in
    c.is_some.ensures
    ∙ ap is_some
    (c.nearest_binder.ensures
    ∙ nearest_is_first_outwards l c.requires.tables.bounded (λ (s : ℕ). binder_at c.args.tables.now.resolved.declarations (Some s) q.name_number) (binder same_name (places_of l es) q.name.now)
    (λ s h. c.requires.tables.found.declarations.any (Some s) h q c.requires.listed) outer c.outer_scope-outer.ensures.known
    ∙ ap (λ (ps : List Place). first_outwards (binder same_name ps q.name.now) (scope_at l outer)) (all_places l))
    ∙ some_outwards (binder same_name (places_in l) q.name.now) test (some_binder (places_in l) q.name.now) (scope_at l outer)
    ∙ ap (any_outwards test) (c.outer_scope-outer.ensures.outside ∙ ap outside (c.home.ensures.scope l))
