use Rattle.std.proofs.Common.{◌≡◌, filter, take}
use Rattle.tree_symbols.specs.Known.{is_symbol}
use Rattle.tree_symbols.proofs.found.find_symbols.Given as goal

abbrev pub invariant-loop-place : goal.invariant-loop-place
invariant-loop-place l = l.symbols.items ≡ filter is_symbol (take l.place-index l.places)
