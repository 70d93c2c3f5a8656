use Rattle.std.proofs.Common.{◌≡◌, map, take}
use Rattle.name_map.proofs.spots.place_names.Given as goal

abbrev pub invariant-loop-place : goal.invariant-loop-place
invariant-loop-place l = map (λ x. x.now) l.names.items ≡ map (λ e. e.name.now) (take l.place-index l.places)
