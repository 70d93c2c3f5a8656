use Rattle.std.proofs.Common.{◌≡◌, length, map, take}
use Rattle.class_tables.specs.Sights.{sight_of}
use Rattle.class_tables.specs.Tables.{Hold}
use Rattle.class_tables.proofs.declared.declared_names.Given as goal

abbrev pub invariant-loop-place : goal.invariant-loop-place
invariant-loop-place l = record { held : Hold (map (sight_of l.bodies) (take l.place-index l.places)) l.tables.items; len : length l.tables.items ≡ length l.bodies }
