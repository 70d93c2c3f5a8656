use Rattle.std.specs.Prelude.{map}
use Rattle.std.specs.Borrow.{Bor}
use Rattle.std.proofs.Common.{ap, ◌∙◌}
use Rattle.tree_nodes.specs.Tree.{Text}
use Rattle.class_tables.proofs.Holding.{names_get}
use Rattle.class_tables.proofs.Seen.{names_are}
use Rattle.class_tables.proofs.bindings.private_names.Goals as goal

pub returns : goal.returns
returns c = λ ps held.
    ap (map (λ (n : Bor Text). n.now)) c.as_slice.ensures.value
    ∙ names_get c.args.tables.now c.args.class _ c.requires
    ∙ held.names c.args.class
    ∙ names_are ps c.args.class
