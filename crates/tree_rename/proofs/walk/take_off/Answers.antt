use Rattle.std.proofs.Common.{ap, ◌∙◌, arith}
use Rattle.tree_nodes.specs.Views.{part_of, parts_of}
use Rattle.tree_rename.specs.Renamed.{off_at}
use Rattle.tree_rename.proofs.MarkOff.{off_at_past, off_at_set}
use Rattle.tree_rename.proofs.walk.take_off.Goals.{then-i-len, else-i-len}
use Rattle.tree_rename.proofs.walk.take_off.Goals as goal

pub returns : goal.returns
returns c =
    let fields = c.into_vec-items.result.items in
    let i = c.args.i in
    let long = c.into_vec-items.result.ok.0 in
    elim c.if-i-len.branch [
      | then-i-len w ↦ c.from_vec.ensures ∙ ap (λ v. parts_of v.items) w.items-is
          ∙ off_at_set fields i w.index_mut.result.now w.turn_off.new.field (omega (arith, w.if-i-len.true, c.len.ensures, long))
          (w.turn_off.ensures ∙ ap (λ f. off_at 0 (part_of f)) w.index_mut.ensures.value) ∙ ap (off_at i) c.into_vec-items.ensures
      | else-i-len w ↦ c.from_vec.ensures ∙ ap (λ v. parts_of v.items) w.items-is ∙ off_at_past fields i (omega (arith, w.if-i-len.false, c.len.ensures, long)) ∙ ap (off_at i) c.into_vec-items.ensures
    ]
