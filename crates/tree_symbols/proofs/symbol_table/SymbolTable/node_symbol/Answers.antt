use Rattle.std.specs.Prelude.{List, None, Option, get_or, ℕ}
use Rattle.std.proofs.Common.{ap, ◌∙◌}
use Rattle.tree_symbols.proofs.symbol_table.SymbolTable.node_symbol.Goals as goal

pub returns-clause-symbol : goal.returns-clause-symbol
returns-clause-symbol c = λ ps scopes a.
    c.number_or_none.ensures ∙ ap (λ (os : List (Option ℕ)). get_or os c.args.node None) c.as_slice.ensures.value ∙ a.by_node c.args.node

pub returns-clause-stored : goal.returns-clause-stored
returns-clause-stored c = c.number_or_none.ensures ∙ ap (λ (os : List (Option ℕ)). get_or os c.args.node None) c.as_slice.ensures.value
