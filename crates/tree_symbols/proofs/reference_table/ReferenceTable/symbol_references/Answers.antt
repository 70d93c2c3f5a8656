use Rattle.std.proofs.Common.{ap, ◌∙◌}
use Rattle.std.specs.Prelude.{map}
use Rattle.syntax_sem.specs.ReferenceId.{number_of}
use Rattle.tree_symbols.proofs.reference_table.ReferenceTable.symbol_references.Goals as goal

pub returns : goal.returns
returns c = λ ps a. ap (map number_of) c.get.ensures ∙ a.by_symbol c.args.k
