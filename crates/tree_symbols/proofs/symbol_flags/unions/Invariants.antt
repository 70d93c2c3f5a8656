use Rattle.std.proofs.Common.{◌≡◌, map}
use Rattle.std.specs.List.{range_with_len}
use Rattle.number_tables.specs.GroupsOf.{group_at}
use Rattle.syntax_sem.specs.Bits.{union_of}
use Rattle.syntax_sem.specs.SymbolFlags.{bits_of}
use Rattle.tree_symbols.proofs.symbol_flags.unions.Given as goal

abbrev pub invariant-loop-k : goal.invariant-loop-k
invariant-loop-k l = map bits_of l.flags.items ≡ map (λ k. union_of (map bits_of (group_at l.groups k))) (range_with_len 0 l.k)
