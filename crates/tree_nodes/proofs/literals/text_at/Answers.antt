use Rattle.std.proofs.Common.{ap, ◌∙◌}
use Rattle.tree_nodes.specs.Literals.{holds_text}
use Rattle.tree_nodes.proofs.Beside.{part_found, part_missing}
use Rattle.tree_nodes.proofs.literals.text_at.Goals as goal

pub returns-in-Some : goal.returns-in-Some
returns-in-Some c = c.holds_text.ensures ∙ ap holds_text (part_found c.args.fields.now c.args.i _ c.in-Some.ensures.part)

pub returns-in-None : goal.returns-in-None
returns-in-None c = ap holds_text (part_missing c.args.fields.now c.args.i c.in-None.ensures.part)
