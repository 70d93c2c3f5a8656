use Rattle.std.proofs.Common.{take}
use Rattle.scope_tables.specs.Private.{HoldsPrivate}
use Rattle.scope_tables.proofs.private_names.private_declarations.Given as goal

abbrev pub invariant-loop-place : goal.invariant-loop-place
invariant-loop-place l = HoldsPrivate l.list l.places (take l.place-index l.places) l.firsts
