use Rattle.std.proofs.Common.{◌≡◌, ◌≤◌, drop, length, map}
use Rattle.syntax_sem.specs.Bits.{union_of}
use Rattle.syntax_sem.specs.SymbolFlags.{bits_of}
use Rattle.tree_symbols.proofs.symbol_flags.union.Given as goal

abbrev pub decreases-loop-left : goal.decreases-loop-left
decreases-loop-left l = l.left

abbrev pub invariant-loop-left : goal.invariant-loop-left
invariant-loop-left l = record { within : l.left ≤ length l.sets; so_far : bits_of l.all ≡ union_of (map bits_of (drop l.left l.sets)) }
