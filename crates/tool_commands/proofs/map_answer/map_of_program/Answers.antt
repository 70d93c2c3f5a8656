use Rattle.tool_commands.proofs.MapAnswers.{copy_renamed}
use Rattle.tool_commands.proofs.map_answer.map_of_program.Goals as goal

pub map_of_renaming-requires : goal.map_of_renaming-requires
map_of_renaming-requires c = copy_renamed c.args.options.now c.args.program c.in_ok-copy.copy c.in_ok-copy.ensures c.in_ok-mangled.mangled c.in_ok-mangled.ensures.mangled
