use Rattle.std.specs.Prelude.{ℕ, List}
use Rattle.std.proofs.Common.{ap, ◌∙◌}
use Rattle.class_tables.specs.Counts.{count_around}
use Rattle.class_tables.proofs.WholeTables.{count_told}
use Rattle.class_tables.proofs.private_table.PrivateTable.closed_count.Goals as goal

pub returns : goal.returns
returns c =
    c.count_around.ensures ∙ ap (λ (ks : List ℕ). count_around ks c.args.class_body) c.as_slice.ensures.value
    ∙ count_told c.args.self.now c.requires.whole c.args.class_body c.requires.class_body
