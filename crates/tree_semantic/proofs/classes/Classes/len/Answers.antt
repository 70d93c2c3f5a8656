use Rattle.std.specs.Prelude.{◌≡◌, length, option_map}
use Rattle.std.proofs.Common.{arith, sym, ◌∙◌}
use Rattle.std.proofs.lemmas.List.{length-map}
use Rattle.syntax_sem.specs.ClassId.{number_of}
use Rattle.tree_semantic.specs.declared.classes.ClassRow.{ClassRow}
use Rattle.tree_semantic.proofs.classes.Classes.len.Goals as goal

pub returns : goal.returns
returns c =
    let many : c.len.result ≡ length c.args.self.now.rows.items = omega (arith, c.len.ensures) in
    many ∙ sym (length-map c.args.self.now.rows.items (λ (r : ClassRow). option_map number_of r.parent))
