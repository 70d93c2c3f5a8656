use Rattle.tool_commands.proofs.UndoneMaps.{piped_maps_are_undone}
use Rattle.tool_commands.proofs.laws.piped_maps_are_undone.Goals as goal

pub returns : goal.returns
returns c = piped_maps_are_undone
