use Rattle.scope_rules.specs.References.{references}
use Rattle.tree_symbols.specs.ReferenceTables.{told, view}
use Rattle.tree_symbols.proofs.Beside.{read_beside}
use Rattle.tree_symbols.proofs.reference_table.ReferenceTable.reference.Goals as goal

pub returns : goal.returns
returns c = λ ps a. read_beside view (told ps) c.args.self.now.references.items (references ps) c.args.i c.index.result.now a.references_are c.requires c.index.ensures
