use Rattle.scope_rules.specs.References.{references}
use Rattle.std.specs.Prelude.{◌≡◌, length}
use Rattle.std.proofs.Common.{arith, ◌∙◌}
use Rattle.tree_symbols.specs.ReferenceTables.{told, view}
use Rattle.tree_symbols.proofs.Beside.{same_count}
use Rattle.tree_symbols.proofs.reference_table.ReferenceTable.len.Goals as goal

pub returns : goal.returns
returns c = λ ps a.
    let many : c.len.result ≡ length c.args.self.now.references.items = omega (arith, c.len.ensures, c.args.self.now.references.ok.0) in
    many ∙ same_count view (told ps) c.args.self.now.references.items (references ps) a.references_are
