use Rattle.std.specs.Prelude.{◌≤◌, ℕ, length}
use Rattle.std.proofs.Common.{subst, sym}
use Rattle.tree_symbols.specs.Scopings.{places_of}
use Rattle.tree_symbols.proofs.scoping.Scoping.symbols_len.Goals as goal

pub returns-clause-symbols : goal.returns-clause-symbols
returns-clause-symbols c = c.len.ensures (places_of c.args.self.now) (length c.args.self.now.tables.list.scopes.items) c.requires.symbols_are

pub returns-clause-few : goal.returns-clause-few
returns-clause-few c = subst (λ (n : ℕ). n ≤ 4294967295) (sym (c.len.ensures (places_of c.args.self.now) (length c.args.self.now.tables.list.scopes.items) c.requires.symbols_are)) c.requires.few_symbols
