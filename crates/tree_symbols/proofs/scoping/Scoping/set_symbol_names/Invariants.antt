use Rattle.std.proofs.Common.{◌≡◌, Some, ℕ, length, map, take}
use Rattle.std.specs.Prelude.{if◌then◌else◌}
use Rattle.scope_rules.specs.Evals.{contains}
use Rattle.syntax_sem.specs.SymbolId.{number_of}
use Rattle.tree_symbols.specs.Scopings.{name_set, under_names}
use Rattle.tree_symbols.proofs.scoping.Scoping.set_symbol_names.Given as goal

abbrev pub invariant-loop-id : goal.invariant-loop-id
invariant-loop-id l = record {
  same : l.self ≡ under_names l.fn.self l.self.names;
  many : length l.self.names.items ≡ length l.fn.self.names.items;
  names : (k : ℕ) → name_set l.self k ≡ (if contains (map number_of (take l.id-index l.ids)) k then Some l.name else name_set l.fn.self k);
}
