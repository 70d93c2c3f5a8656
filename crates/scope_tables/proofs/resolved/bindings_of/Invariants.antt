use Rattle.std.proofs.Common.{◌≡◌, map, take}
use Rattle.scope_tables.proofs.resolved.bindings_of.Given as goal

abbrev pub invariant-loop-place : goal.invariant-loop-place
invariant-loop-place l = l.bindings.items ≡ map (λ b. b.binding) (take l.place-index l.places)
