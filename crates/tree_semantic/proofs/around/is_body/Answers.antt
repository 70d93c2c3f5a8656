use Rattle.std.proofs.Common.{ap, sym, ◌∙◌}
use Rattle.tree_nodes.specs.Table.{Row}
use Rattle.tree_nodes.specs.declared.table.Opens.{Opens}
use Rattle.tree_places.specs.Enclosing.{is_class_body}
use Rattle.tree_semantic.proofs.FoundInTurn.{no_body}
use Rattle.tree_semantic.proofs.around.is_body.Goals as goal

pub returns-in-ClassMembers : goal.returns-in-ClassMembers
unfolding is_class_body
returns-in-ClassMembers c = sym (ap (λ (o : Opens). is_class_body o) c.in-ClassMembers.is) ∙ ap (λ (r : Row). is_class_body r.opens) c.row.ensures

pub returns-in_default : goal.returns-in_default
returns-in_default c = no_body _ c.in_default.not-ClassMembers ∙ ap (λ (r : Row). is_class_body r.opens) c.row.ensures
