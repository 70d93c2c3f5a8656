use Rattle.std.proofs.Common.{ap, ◌∙◌}
use Rattle.tree_nodes.specs.Tree.{Parts}
use Rattle.tree_nodes.proofs.Beside.{part_found, part_missing}
use Rattle.tree_places.specs.Places.{directs, block_items}
use Rattle.place_list.proofs.directives.directs_block_at.Goals as goal

pub returns-in-Some : goal.returns-in-Some
returns-in-Some c = c.directs_block_in.ensures ∙ ap (λ (p : Parts). directs (block_items p)) (part_found c.args.fields.now c.args.i _ c.in-Some.ensures.part)

pub returns-in-None : goal.returns-in-None
unfolding directs block_items
returns-in-None c = ap (λ (p : Parts). directs (block_items p)) (part_missing c.args.fields.now c.args.i c.in-None.ensures.part)
