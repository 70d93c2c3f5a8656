use Rattle.std.proofs.Common.{◌≡◌, filter, take}
use Rattle.tree_symbols.specs.Known.{refers}
use Rattle.tree_symbols.proofs.found.find_references.Given as goal

abbrev pub invariant-loop-place : goal.invariant-loop-place
invariant-loop-place l = l.references.items ≡ filter refers (take l.place-index l.places)
