use Rattle.std.proofs.Common.{◌≡◌, map, take}
use Rattle.name_map.specs.Spots.{is_plain_entry}
use Rattle.name_map.proofs.spots.plain_places.Given as goal

abbrev pub invariant-loop-place : goal.invariant-loop-place
invariant-loop-place l = l.plain.items ≡ map is_plain_entry (take l.place-index l.places)
