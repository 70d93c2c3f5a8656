use Rattle.std.proofs.Common.{ap, ◌∙◌}
use Rattle.tree_nodes.specs.Standing.{own_name}
use Rattle.tree_nodes.proofs.Beside.{part_found, part_missing}
use Rattle.tree_nodes.proofs.standing.own_name_at.Goals as goal

pub returns-in-Some : goal.returns-in-Some
returns-in-Some c = c.own_name_in.ensures ∙ ap own_name (part_found c.args.fields.now c.args.i _ c.in-Some.ensures.part)

pub returns-in-None : goal.returns-in-None
unfolding own_name
returns-in-None c = ap own_name (part_missing c.args.fields.now c.args.i c.in-None.ensures.part)
