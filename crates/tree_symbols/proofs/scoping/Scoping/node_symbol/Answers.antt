use Rattle.std.specs.Prelude.{ℕ, length}
use Rattle.std.proofs.Common.{ap, sym, ◌∙◌}
use Rattle.scope_rules.specs.Bindings.{same_name}
use Rattle.scope_rules.specs.Symbols.{node_symbol}
use Rattle.tree_symbols.specs.Scopings.{places_of}
use Rattle.tree_symbols.proofs.Numbered.{some_below}
use Rattle.tree_symbols.proofs.scoping.Scoping.node_symbol.Goals as goal

pub symbol_at-requires : goal.symbol_at-requires
symbol_at-requires c = some_below 4294967295 c.node_symbol.result (λ k e. c.requires.numbers_fit c.index.result k (sym c.node_symbol.ensures.stored ∙ e))

pub returns : goal.returns
returns c =
    let ps = places_of c.args.self.now in
    c.symbol_at.ensures ∙ c.node_symbol.ensures.symbol ps (length c.args.self.now.tables.list.scopes.items) c.requires.symbols_are ∙ ap (λ (n : ℕ). node_symbol same_name ps n) c.index.ensures.value
