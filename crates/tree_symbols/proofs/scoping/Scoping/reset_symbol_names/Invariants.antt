use Rattle.std.proofs.Common.{◌≡◌, ◌<◌, None, ℕ, length}
use Rattle.tree_symbols.specs.Scopings.{name_set, under_names}
use Rattle.tree_symbols.proofs.scoping.Scoping.reset_symbol_names.Given as goal

abbrev pub invariant-loop-k : goal.invariant-loop-k
invariant-loop-k l = record {
  same : l.self ≡ under_names l.fn.self l.self.names;
  many : length l.self.names.items ≡ length l.fn.self.names.items;
  all : l.k-end ≡ length l.fn.self.names.items;
  names : (j : ℕ) → j < l.k → name_set l.self j ≡ None;
}
