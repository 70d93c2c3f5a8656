use Rattle.std.proofs.Common.{ap, ◌∙◌}
use Rattle.std.specs.Prelude.{map}
use Rattle.syntax_sem.specs.SymbolId.{number_of}
use Rattle.tree_symbols.proofs.symbol_table.SymbolTable.scope_symbols.Goals as goal

pub returns : goal.returns
returns c = λ ps scopes a. ap (map number_of) c.get.ensures ∙ a.listed c.args.s
