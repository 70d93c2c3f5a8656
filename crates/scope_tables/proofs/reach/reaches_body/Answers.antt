use Rattle.std.specs.Prelude.{Bool, not, ◌&&◌}
use Rattle.std.specs.List.{list_any}
use Rattle.std.proofs.Common.{sym, ap, ◌∙◌}
use Rattle.place_list.specs.Tables.{place_of, setting_of, site_of}
use Rattle.scope_rules.specs.Faults.{binds_in}
use Rattle.scope_tables.specs.Reach.{has, is_open_body}
use Rattle.scope_tables.specs.Views.{bound_of, bounds_of}
use Rattle.scope_tables.proofs.Numbers.{head_is_known}
use Rattle.scope_tables.proofs.Reaching.{bound_reference, no_reference, unbound_reference}
use Rattle.scope_tables.proofs.reach.reaches_body.Goals as goal

pub is_any_open-requires : goal.is_any_open-requires
is_any_open-requires c = record { bounded = c.requires.bounded; head = head_is_known c.args.list.now c.args.place.now.place c.requires }

pub returns-then-not-refers : goal.returns-then-not-refers
unfolding bound_of place_of
returns-then-not-refers c = λ all bodies heads.
    let l = c.args.list.now in
    sym (no_reference (bounds_of l all) (bound_of l c.args.place.now) (sym (c.refers.ensures l) ∙ c.if-not-refers.true))

pub returns-in-Some : goal.returns-in-Some
unfolding bound_of place_of site_of setting_of
returns-in-Some c = λ all bodies heads.
    let l = c.args.list.now in
    let n = c.in-Some.node in
    c.is_any_open.ensures
    ∙ bound_reference (bounds_of l all) (bound_of l c.args.place.now) (sym (c.refers.ensures l) ∙ c.if-not-refers.false) n c.in-Some.is (is_open_body c.args.bodies.now c.args.heads.now n)
    (λ f. ap (λ (b : Bool). b && not (has c.args.heads.now f n)) (bodies f n) ∙ ap (λ (b : Bool). list_any (binds_in f n) (bounds_of l all) && not b) (heads f n))

pub returns-in-None : goal.returns-in-None
unfolding bound_of
returns-in-None c = λ all bodies heads.
    let l = c.args.list.now in
    sym (unbound_reference (bounds_of l all) (bound_of l c.args.place.now) c.in-None.is)
