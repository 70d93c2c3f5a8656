use Rattle.std.specs.Prelude.{ℕ, Some}
use Rattle.std.proofs.Common.{sym, ap, subst, ◌∙◌}
use Rattle.place_list.specs.TableViews.{place_in}
use Rattle.place_list.specs.Tables.{place_of, setting_of, site_of}
use Rattle.scope_rules.specs.Bindings.{binder, node, plain_binder, same_name}
use Rattle.scope_tables.specs.DeclarationsAt.{binder_at}
use Rattle.scope_tables.specs.Views.{IsScope, places_of}
use Rattle.scope_tables.proofs.BindingCases.{declaration_binding, function_name_binding, no_binding, reference_binding}
use Rattle.scope_tables.proofs.Numbers.{home_is_known, scope_is_known}
use Rattle.scope_tables.proofs.Outward.{nearest_is_first_outwards}
use Rattle.scope_tables.proofs.resolve.binding.Goals as goal
use Rattle.tree_places.specs.Scopes.{Scope}

pub nearest_binder-requires : goal.nearest_binder-requires
nearest_binder-requires c = record { bounded = c.requires.bounded; scope = scope_is_known c.args.list.now c.args.place.now c.requires }

pub returns-then-refers : goal.returns-then-refers
unfolding place_of site_of setting_of
returns-then-refers c = λ all d j.
    let l = c.args.list.now in
    let q = c.args.place.now in
    c.nearest_binder.ensures
    ∙ nearest_is_first_outwards l c.requires.bounded (λ (s : ℕ). binder_at c.args.declarations.now (Some s) q.name_number) (binder same_name (places_of l all) q.name.now) (λ s h. d.any (Some s) h q j)
    q.setting.scope (scope_is_known l q c.requires)
    ∙ sym (reference_binding (places_of l all) (place_in l q) (sym (c.refers.ensures l) ∙ c.if-refers.true))

pub returns-then-names_function : goal.returns-then-names_function
unfolding place_of site_of node
returns-then-names_function c = λ all d j.
    let l = c.args.list.now in
    sym (function_name_binding (places_of l all) (place_in l c.args.place.now) (sym (c.refers.ensures l) ∙ c.if-refers.false) (sym (c.names_function.ensures l) ∙ c.if-names_function.true))

pub returns-then-declares : goal.returns-then-declares
unfolding place_of
returns-then-declares c = λ all d j.
    let l = c.args.list.now in
    let q = c.args.place.now in
    c.plain_binder.ensures ∙ d.plain c.home.result (subst (IsScope l) (sym c.home.ensures.number) (home_is_known l q c.requires)) q j
    ∙ ap (λ (h : Scope). plain_binder same_name (places_of l all) q.name.now h) (c.home.ensures.scope l)
    ∙ sym (declaration_binding (places_of l all) (place_in l q) (sym (c.refers.ensures l) ∙ c.if-refers.false) (sym (c.names_function.ensures l) ∙ c.if-names_function.false) (sym (c.declares.ensures l) ∙ c.if-declares.true))

pub returns : goal.returns
unfolding place_of
returns c = λ all d j.
    let l = c.args.list.now in
    sym (no_binding (places_of l all) (place_in l c.args.place.now) (sym (c.refers.ensures l) ∙ c.if-refers.false) (sym (c.names_function.ensures l) ∙ c.if-names_function.false) (sym (c.declares.ensures l) ∙ c.if-declares.false))
