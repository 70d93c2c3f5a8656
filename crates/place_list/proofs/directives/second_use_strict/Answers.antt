use Rattle.std.proofs.Common.{ap, ◌∙◌}
use Rattle.place_list.specs.Directives.{is_use_strict}
use Rattle.tree_nodes.proofs.Beside.{part_found, part_missing}
use Rattle.place_list.proofs.directives.second_use_strict.Goals as goal

pub returns-in-Some : goal.returns-in-Some
returns-in-Some c = c.use_strict_in.ensures ∙ ap is_use_strict (part_found c.args.fields.now 1 _ c.in-Some.ensures.part)

pub returns-in-None : goal.returns-in-None
unfolding is_use_strict
returns-in-None c = ap is_use_strict (part_missing c.args.fields.now 1 c.in-None.ensures.part)
