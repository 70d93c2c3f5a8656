use Rattle.std.proofs.Common.{ap, ◌∙◌, arith}
use Rattle.tree_nodes.specs.Views.{part_of, parts_of}
use Rattle.name_map.specs.Filled.{flag_put}
use Rattle.name_map.proofs.FlagPut.{flag_put_past, flag_put_set}
use Rattle.name_map.proofs.fill.put_flag.Goals.{then-i-len, else-i-len}
use Rattle.name_map.proofs.fill.put_flag.Goals as goal

pub returns : goal.returns
returns c =
    let fields = c.into_vec-items.result.items in
    let i = c.args.i in
    let b = c.args.mark in
    let long = c.into_vec-items.result.ok.0 in
    elim c.if-i-len.branch [
      | then-i-len w ↦ c.from_vec.ensures ∙ ap (λ v. parts_of v.items) w.items-is
          ∙ flag_put_set b fields i w.index_mut.result.now w.turn.new.field (omega (arith, w.if-i-len.true, c.len.ensures, long))
          (w.turn.ensures ∙ ap (λ f. flag_put 0 b (part_of f)) w.index_mut.ensures.value) ∙ ap (flag_put i b) c.into_vec-items.ensures
      | else-i-len w ↦ c.from_vec.ensures ∙ ap (λ v. parts_of v.items) w.items-is ∙ flag_put_past b fields i (omega (arith, w.if-i-len.false, c.len.ensures, long)) ∙ ap (flag_put i b) c.into_vec-items.ensures
    ]
