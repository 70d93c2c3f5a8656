use Rattle.std.proofs.Common.{ap, ◌∙◌}
use Rattle.tree_nodes.specs.Tree.{word_of}
use Rattle.tree_nodes.proofs.Beside.{part_found, part_missing}
use Rattle.tree_nodes.proofs.roles.word_at.Goals as goal

pub returns-in-Some : goal.returns-in-Some
returns-in-Some c = c.word_in.ensures ∙ ap word_of (part_found c.args.fields.now c.args.i _ c.in-Some.ensures.part)

pub returns-in-None : goal.returns-in-None
returns-in-None c = ap word_of (part_missing c.args.fields.now c.args.i c.in-None.ensures.part)
