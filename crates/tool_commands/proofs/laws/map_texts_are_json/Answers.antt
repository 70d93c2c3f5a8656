use Rattle.tool_commands.proofs.UndoneMaps.{map_texts_are_json}
use Rattle.tool_commands.proofs.laws.map_texts_are_json.Goals as goal

pub returns : goal.returns
returns c = map_texts_are_json
