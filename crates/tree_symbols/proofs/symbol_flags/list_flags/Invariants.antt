use Rattle.std.proofs.Common.{◌≡◌, map, take}
use Rattle.syntax_sem.specs.SymbolFlags.{bits_of}
use Rattle.tree_symbols.specs.Flags.{flags_of}
use Rattle.tree_symbols.proofs.symbol_flags.list_flags.Given as goal

abbrev pub invariant-loop-known : goal.invariant-loop-known
invariant-loop-known l = map bits_of l.flags.items ≡ flags_of (take l.known-index l.places)
