use Rattle.std.proofs.Common.{◌≡◌, None, get_or, length, ℕ}
use Rattle.tree_symbols.proofs.scoping.no_names.Given as goal

abbrev pub invariant-loop : goal.invariant-loop
invariant-loop l = record {
  many : length l.names.items ≡ l.counter;
  unset : (k : ℕ) → get_or l.names.items k None ≡ None;
}
