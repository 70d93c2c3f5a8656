use Rattle.std.proofs.Common.{◌≡◌, false, take}
use Rattle.std.specs.List.{list_any}
use Rattle.class_tables.specs.Answers.{undeclared_at}
use Rattle.class_tables.proofs.bindings.has_undeclared.Given as goal

abbrev pub invariant-loop-place : goal.invariant-loop-place
invariant-loop-place l = list_any (undeclared_at l.tables l.bodies) (take l.place-index l.places) ≡ false
