use Rattle.std.proofs.Common.{◌≡◌}
use Rattle.tree_symbols.specs.SymbolTables.{first_numbers}
use Rattle.tree_symbols.proofs.ids.numbers.Given as goal

abbrev pub invariant-loop-n : goal.invariant-loop-n
invariant-loop-n l = l.numbers.items ≡ first_numbers l.n
