use Rattle.std.specs.Prelude.{◌≤◌, length}
use Rattle.std.specs.List.{list_any}
use Rattle.std.proofs.Common.{ap, arith, take_all, ◌∙◌}
use Rattle.place_list.specs.TableViews.{places_in}
use Rattle.scope_report.specs.Rules.{uses}
use Rattle.scope_tables.proofs.BoundPlaces.{many_bound}
use Rattle.scope_tables.proofs.MarkedSets.{marked_more}
use Rattle.scope_rules.specs.Bindings.{bound, same_name}
use Rattle.scope_report.proofs.used.used_bindings.Goals as goal

pub loop-i-preserved : goal.loop-i-preserved
loop-i-preserved c = λ n.
    let l = c.args.tables.now.list in
    marked_more (uses n) (bound same_name (places_in l)) c.loop-i.i _ c.bound_place-place.ensures.bound _ _ (c.loop-i.invariant n)
    c.used_binding.result n (c.used_binding.ensures l n) (c.in_ok-put.ensures n)

pub returns : goal.returns
returns c = λ n.
    let l = c.args.tables.now.list in
    let over : length (bound same_name (places_in l)) ≤ c.loop-i.i = omega (arith, many_bound l) in
    c.loop-i.invariant n ∙ ap (list_any (uses n)) (take_all c.loop-i.i (bound same_name (places_in l)) over)
