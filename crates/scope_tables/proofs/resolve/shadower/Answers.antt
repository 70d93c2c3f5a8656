use Rattle.std.specs.Prelude.{Bool, None, if◌then◌else◌}
use Rattle.std.proofs.Common.{sym, ap, subst, ◌∙◌}
use Rattle.place_list.specs.Tables.{place_of}
use Rattle.scope_rules.specs.Bindings.{plain_binder, same_name, shadower}
use Rattle.scope_rules.specs.Homes.{home}
use Rattle.scope_tables.specs.Views.{IsScope, places_of, site_in}
use Rattle.scope_tables.proofs.Numbers.{home_is_known}
use Rattle.scope_tables.proofs.resolve.shadower.Goals as goal
use Rattle.tree_places.specs.Scopes.{Scope}

pub returns-then-names_function : goal.returns-then-names_function
unfolding shadower place_of
returns-then-names_function c = λ all d j.
    let l = c.args.list.now in
    let q = c.args.place.now in
    c.plain_binder.ensures ∙ d.plain c.home.result (subst (IsScope l) (sym c.home.ensures.number) (home_is_known l q c.requires)) q j
    ∙ ap (λ (h : Scope). plain_binder same_name (places_of l all) q.name.now h) (c.home.ensures.scope l)
    ∙ sym (ap (λ (b : Bool). if b then plain_binder same_name (places_of l all) q.name.now (home (site_in l q)) else None) (sym (c.names_function.ensures l) ∙ c.if-names_function.true))

pub returns-else-names_function : goal.returns-else-names_function
unfolding shadower place_of
returns-else-names_function c = λ all d j.
    let l = c.args.list.now in
    let q = c.args.place.now in
    sym (ap (λ (b : Bool). if b then plain_binder same_name (places_of l all) q.name.now (home (site_in l q)) else None) (sym (c.names_function.ensures l) ∙ c.if-names_function.false))
