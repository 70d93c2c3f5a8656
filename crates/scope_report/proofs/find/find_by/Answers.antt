use Rattle.std.specs.Prelude.{◌≤◌, [], length}
use Rattle.std.proofs.Common.{ap, arith, take_all, ◌∙◌}
use Rattle.place_list.specs.TableViews.{nested_nodes_in, place_in, places_in}
use Rattle.place_list.specs.Tables.{place_of, site_of}
use Rattle.scope_tables.proofs.BoundPlaces.{many_places}
use Rattle.scope_report.proofs.FoundSteps.{found_more}
use Rattle.scope_report.specs.Found.{found, found_from}
use Rattle.scope_report.specs.Views.{found_views}
use Rattle.scope_report.proofs.find.find_by.Goals as goal

pub loop-i-init : goal.loop-i-init
unfolding found_from
loop-i-init c = ap found_views c.new-found.ensures.items

pub loop-i-preserved : goal.loop-i-preserved
unfolding place_of site_of
loop-i-preserved c =
    let l = c.args.tables.now.list in
    let ns = nested_nodes_in c.args.nodes.now in
    let entry = c.place-place.result in
    found_more ns (places_in l) c.loop-i.i (place_in l entry) c.place-place.ensures.stands _ _ c.loop-i.invariant
    c.verdict_at-verdict.result (c.verdict_at-verdict.ensures ns (place_in l entry) c.in_ok-marks.ensures c.place-place.ensures.stands) c.in_ok-push_verdict.ensures

pub returns : goal.returns
unfolding found
returns c =
    let l = c.args.tables.now.list in
    let over : length (places_in l) ≤ c.loop-i.i = omega (arith, many_places l) in
    c.loop-i.invariant ∙ ap (found_from (nested_nodes_in c.args.nodes.now) (places_in l) []) (take_all c.loop-i.i (places_in l) over)
