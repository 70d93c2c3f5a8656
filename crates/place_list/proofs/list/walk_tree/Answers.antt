use Rattle.std.proofs.Common.{◌∙◌, ap}
use Rattle.place_list.specs.TableWalk.{Around, nowhere, walk}
use Rattle.tree_nodes.specs.Along.{all}
use Rattle.tree_nodes.specs.Table.{unlisted}
use Rattle.tree_nodes.specs.Tree.{alone}
use Rattle.place_list.specs.Open.{all_open}
use Rattle.place_list.proofs.WalkSteps.{from_root}
use Rattle.place_list.specs.declared.setting.ScopeKind.TheVariants as scope
use Rattle.place_list.proofs.list.walk_tree.Goals as goal

pub returns : goal.returns
unfolding all_open
returns c =
    let around : Around = record { outside = nowhere; inside = nowhere; fields = c.root.inside.fields; number = 0; value_scope = scope.Function } in
    c.in_ok-walk_node.ensures ∙ ap (walk (alone c.args.root.now) (all unlisted) around) c.no_places-list.ensures ∙ from_root c.args.lists_nodes c.args.root.now c.root.inside.fields
