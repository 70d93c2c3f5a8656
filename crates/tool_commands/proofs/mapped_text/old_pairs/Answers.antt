use Rattle.std.proofs.Common.{◌≡◌, ◌≤◌, [], ◌∷◌, ◌++◌, length, ◌∙◌, rules}
use Rattle.std.proofs.lemmas.List.{take_all}
use Rattle.tool_commands.proofs.MapTexts.{none_past, pair_put}
use Rattle.tool_commands.specs.declared.mapped_text.OldPair.{OldPair}
use Rattle.tool_commands.proofs.mapped_text.old_pairs.Goals.{else-loop-i-test, then-loop-i-test+in_default}
use Rattle.tool_commands.proofs.mapped_text.old_pairs.Goals as goal

pub loop-i-preserved : goal.loop-i-preserved
loop-i-preserved c =
    let p : OldPair = record { place = c.in-Some.place; name = c.in-Some.name } in
    let pushed : c.push.new.self.items ≡ c.loop-i.pairs.items ++ p ∷ [] = search rules in
    pair_put c.args.names.now c.loop-i.pairs.items c.push.new.self.items p c.loop-i.i c.loop-i.invariant c.in-Some.ensures pushed

pub returns : goal.returns
returns c = elim c.loop-i-test.branch [
  | else-loop-i-test w ↦
      let over : length c.args.names.now ≤ c.loop-i.i = rw (← c.len-i-end.ensures.len) w.loop-i-test.false in
      c.loop-i.invariant ∙ take_all c.loop-i.i c.args.names.now over
  | then-loop-i-test+in_default w ↦ c.loop-i.invariant ∙ take_all c.loop-i.i c.args.names.now (none_past c.args.names.now c.loop-i.i w.in_default.ensures)
]
