use Rattle.std.proofs.Common.{◌≡◌, map}
use Rattle.std.specs.List.{range_with_len}
use Rattle.syntax_sem.specs.SymbolId.{number_of}
use Rattle.tree_symbols.proofs.ids.symbol_ids.Given as goal

abbrev pub invariant-loop-n : goal.invariant-loop-n
invariant-loop-n l = map number_of l.ids.items ≡ range_with_len 0 l.n
