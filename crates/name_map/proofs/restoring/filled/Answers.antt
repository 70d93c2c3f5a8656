use Rattle.std.proofs.Common.{◌≡◌, ◌∙◌, map, ap}
use Rattle.name_map.proofs.SameTrees.{alone_same}
use Rattle.name_map.specs.Filled.{Given, filled, filled_tree, given}
use Rattle.tree_nodes.specs.Tree.{Tree, alone}
use Rattle.name_map.proofs.restoring.filled.Goals as goal

made_of : (g : Given) (t w : Tree) → alone w ≡ filled g (alone t) → w ≡ filled_tree g t
unfolding filled
made_of g t w e = alone_same w (filled_tree g t) e

pub returns : goal.returns
returns c =
    let g = given (map (λ x. x.now) c.args.names.now) c.args.marks.now in
    made_of g c.in_ok-copy.copy c.fill_node.new.node c.in_ok-fill_node.ensures.tree ∙ ap (filled_tree g) c.in_ok-copy.ensures
