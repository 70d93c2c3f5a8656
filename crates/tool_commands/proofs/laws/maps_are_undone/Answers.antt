use Rattle.tool_commands.proofs.UndoneMaps.{maps_are_undone}
use Rattle.tool_commands.proofs.laws.maps_are_undone.Goals as goal

pub returns : goal.returns
returns c = maps_are_undone
