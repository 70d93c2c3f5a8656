use Rattle.std.proofs.Common.{take}
use Rattle.scope_tables.specs.Firsts.{HoldsFirsts}
use Rattle.scope_tables.proofs.firsts.first_declarations.Given as goal

abbrev pub invariant-loop-place : goal.invariant-loop-place
invariant-loop-place l = HoldsFirsts l.declaring l.list l.places (take l.place-index l.places) l.firsts
