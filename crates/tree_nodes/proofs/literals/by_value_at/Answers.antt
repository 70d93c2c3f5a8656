use Rattle.std.proofs.Common.{ap, ◌∙◌}
use Rattle.tree_nodes.specs.Literals.{case_from}
use Rattle.tree_nodes.specs.Tree.{atom, empty, done}
use Rattle.tree_nodes.proofs.Beside.{part_found, part_missing}
use Rattle.tree_nodes.proofs.literals.by_value_at.Goals as goal

pub returns-in-Some : goal.returns-in-Some
returns-in-Some c = c.by_value.ensures ∙ ap (λ p. case_from p done (atom empty done) (atom empty done)) (part_found c.args.fields.now 0 _ c.in-Some.ensures.part)

pub returns-in-None : goal.returns-in-None
unfolding case_from
returns-in-None c = ap (λ p. case_from p done (atom empty done) (atom empty done)) (part_missing c.args.fields.now 0 c.in-None.ensures.part)
