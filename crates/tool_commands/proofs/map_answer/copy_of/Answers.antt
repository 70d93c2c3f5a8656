use Rattle.std.proofs.Common.{sym, subst, ◌∙◌}
use Rattle.tree_core.specs.Program.{IsProgram}
use Rattle.tool_commands.proofs.map_answer.copy_of.Goals as goal

pub from_root-requires : goal.from_root-requires
from_root-requires c = subst IsProgram (sym (c.in_ok-try_clone.ensures ∙ c.root.ensures.root)) c.root.ensures.program
