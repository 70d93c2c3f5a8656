use Rattle.std.specs.Prelude.{◌≡◌, IfOk, List}
use Rattle.std.proofs.Common.{ap, subst, ◌∙◌}
use Rattle.place_list.specs.Nodes.{NestedNode, nested_nodes}
use Rattle.place_list.specs.TableViews.{places_in}
use Rattle.scope_report.specs.Found.{Found, found, found_in}
use Rattle.scope_report.specs.Views.{found_views}
use Rattle.tree_nodes.specs.Tree.{alone}
use Rattle.tree_places.specs.Places.{Place}
use Rattle.scope_report.proofs.find.find.Goals as goal

pub returns : goal.returns
unfolding found_in
returns c =
    let root = c.args.root.now in
    let ps = places_in c.in_ok-tables.tables.list in
    subst (λ (fs : List Found). IfOk c.find_by.result (λ v. found_views v.items ≡ fs))
    (ap (λ (ns : List NestedNode). found ns ps) c.in_ok-nodes.ensures.nested_nodes ∙ ap (λ (qs : List Place). found (nested_nodes (alone root)) qs) c.in_ok-tables.ensures.places)
    c.find_by.ensures
