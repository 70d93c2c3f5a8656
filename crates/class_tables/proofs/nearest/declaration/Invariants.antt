use Rattle.std.proofs.Common.{◌≡◌}
use Rattle.class_tables.specs.Outwards.{chain_from, nearest, outer}
use Rattle.class_tables.specs.Tables.{found_in}
use Rattle.class_tables.proofs.Outward.{left_of}
use Rattle.class_tables.proofs.nearest.declaration.Given as goal

abbrev pub invariant-loop-at : goal.invariant-loop-at
invariant-loop-at l = nearest (found_in l.tables l.name) (chain_from (outer l.bodies) l.fn.class) ≡ nearest (found_in l.tables l.name) (chain_from (outer l.bodies) l.at)

abbrev pub decreases-loop-at : goal.decreases-loop-at
decreases-loop-at l = left_of l.at
