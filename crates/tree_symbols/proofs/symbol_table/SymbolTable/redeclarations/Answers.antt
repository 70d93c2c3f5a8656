use Rattle.std.proofs.Common.{ap, ◌∙◌}
use Rattle.std.specs.Prelude.{drop, map}
use Rattle.scope_rules.specs.Symbols.{redeclarations}
use Rattle.syntax_sem.specs.NodeId.{number_of}
use Rattle.tree_symbols.proofs.Beside.{drop_one_map}
use Rattle.tree_symbols.proofs.symbol_table.SymbolTable.redeclarations.Goals as goal

pub returns : goal.returns
unfolding redeclarations
returns c = λ ps scopes a.
    ap (map number_of) c.after_first.ensures ∙ drop_one_map number_of c.get.result.now ∙ ap (λ xs. drop 1 (map number_of xs)) c.get.ensures ∙ ap (drop 1) (a.declarations c.args.k)
