use Rattle.std.proofs.Common.{◌≡◌, ◌<◌, ℕ, false, length, get_or, map, take}
use Rattle.std.specs.List.{list_any}
use Rattle.class_tables.specs.Sights.{evals_in, sight_of}
use Rattle.class_tables.proofs.open.open_classes.Given as goal

abbrev pub invariant-loop-place : goal.invariant-loop-place
invariant-loop-place l = record {
  opened : (k : ℕ) → k < length l.bodies → get_or l.open.items k false ≡ list_any (evals_in k) (map (sight_of l.bodies) (take l.place-index l.places));
  len : length l.open.items ≡ length l.bodies;
}
