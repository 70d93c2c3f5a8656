use Rattle.std.proofs.Common.{ap, ◌∙◌}
use Rattle.tree_nodes.specs.Literals.{by_raw}
use Rattle.tree_nodes.proofs.Beside.{part_found, part_missing}
use Rattle.tree_nodes.proofs.literals.by_raw_at.Goals as goal

pub returns-in-Some : goal.returns-in-Some
returns-in-Some c = c.by_raw.ensures ∙ ap by_raw (part_found c.args.fields.now 1 _ c.in-Some.ensures.part)

pub returns-in-None : goal.returns-in-None
unfolding by_raw
returns-in-None c = ap by_raw (part_missing c.args.fields.now 1 c.in-None.ensures.part)
