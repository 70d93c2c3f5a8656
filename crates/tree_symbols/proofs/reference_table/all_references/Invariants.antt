use Rattle.std.proofs.Common.{◌≡◌, map, take}
use Rattle.tree_symbols.specs.ReferenceTables.{told_by, view}
use Rattle.tree_symbols.proofs.reference_table.all_references.Given as goal

abbrev pub invariant-loop-known : goal.invariant-loop-known
invariant-loop-known l = map view l.references.items ≡ map (told_by l.row) (take l.known-index l.places)
