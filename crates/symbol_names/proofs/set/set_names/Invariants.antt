use Rattle.std.specs.Prelude.{◌≡◌, ℕ}
use Rattle.symbol_names.proofs.NamesSet.{up_to}
use Rattle.tree_symbols.specs.Scopings.{IsScoping, name_set, under_names}
use Rattle.symbol_names.proofs.set.set_names.Given as goal

abbrev pub invariant-loop-k : goal.invariant-loop-k
invariant-loop-k l = record {
  scoping : IsScoping l.scoping;
  same : l.scoping ≡ under_names l.fn.scoping l.scoping.names;
  names : (j : ℕ) → name_set l.scoping j ≡ up_to l.names l.k j;
}
