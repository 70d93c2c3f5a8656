use Rattle.std.proofs.Common.{take}
use Rattle.scope_tables.specs.Reach.{HasBodies}
use Rattle.scope_tables.proofs.reach_sets.bodies_of.Given as goal

abbrev pub invariant-loop-place : goal.invariant-loop-place
invariant-loop-place l = HasBodies l.list (take l.place-index l.places) l.bodies
