use Rattle.std.proofs.Common.{◌∷◌, ◌++◌, [], List, Bool, ap, arith, sym, ◌∙◌}
use Rattle.live_slots.proofs.MarksReached.{reached_new, reached_old}
use Rattle.live_slots.proofs.give.reach.Goals as goal

pub returns-in_ok-push : goal.returns-in_ok-push
returns-in_ok-push g c =
    c.in_ok-push.ensures.items ∙ ap (λ (bits : List Bool). c.args.marks.now.items ++ bits ∷ []) c.in_ok-new_in.ensures
    ∙ sym (reached_new c.args.marks.now.items c.args.slot c.args.scopes (omega (arith, c.if-slot-len.true, c.len.ensures, c.args.marks.now.ok)))

pub returns-else-slot-len : goal.returns-else-slot-len
returns-else-slot-len g c = sym (reached_old c.args.marks.now.items c.args.slot c.args.scopes (omega (arith, c.if-slot-len.false, c.len.ensures, c.args.marks.now.ok)))
