use Rattle.std.proofs.Common.{◌≡◌, map, take}
use Rattle.name_map.proofs.spots.marks_in.Given as goal

abbrev pub invariant-loop-pair : goal.invariant-loop-pair
invariant-loop-pair l = l.marks.items ≡ map (λ p. p.marked) (take l.pair-index l.pairs)
