-- Why a value was not read.
use Rattle.name_map.specs.declared.read.MapReadError.{MapReadError}
use Rattle.name_map.specs.declared.read.MapReadError.TheVariants.{BadForm, Memory}

-- what the error says of a value: that it is no map, as this fact has it, or that memory ran out
abbrev pub Says : MapReadError → Type 0 → Type 0
Says BadForm no_map = no_map
Says Memory no_map = Unit {0}
