use Rattle.std.proofs.Common.{ap, ◌∙◌}
use Rattle.place_list.specs.TableWalk.{value_from}
use Rattle.tree_nodes.specs.Tree.{Parts}
use Rattle.tree_nodes.proofs.Beside.{part_found, part_missing}
use Rattle.tree_places.specs.Places.{naming_value}
use Rattle.place_list.proofs.fields.naming_value_at.Goals as goal

pub returns-in-Some : goal.returns-in-Some
returns-in-Some c = c.naming_value_in.ensures ∙ ap (λ (p : Parts). value_from (naming_value p)) (part_found c.args.fields.now c.args.i _ c.in-Some.ensures.part)

pub returns-in-None : goal.returns-in-None
unfolding value_from naming_value
returns-in-None c = ap (λ (p : Parts). value_from (naming_value p)) (part_missing c.args.fields.now c.args.i c.in-None.ensures.part)
