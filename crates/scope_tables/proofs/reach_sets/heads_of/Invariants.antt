use Rattle.std.proofs.Common.{take}
use Rattle.scope_tables.specs.Reach.{HasHeads}
use Rattle.scope_tables.proofs.reach_sets.heads_of.Given as goal

abbrev pub invariant-loop-place : goal.invariant-loop-place
invariant-loop-place l = HasHeads l.list (take l.place-index l.places) l.heads
