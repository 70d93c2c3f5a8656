use Rattle.std.proofs.Common.{sym, ◌∙◌}
use Rattle.oxc_str.proofs.Seams.{stand_apart}
use Rattle.oxc_str.proofs.wtf8_buffer.joint.Goals as goal

pub returns-else-pairs_with : goal.returns-else-pairs_with
returns-else-pairs_with c = stand_apart
    c.args.bytes.now
    c.args.more.now
    c.next_back.new.self
    c.next.new.self
    c.in_ok-lead.lead
    c.in_ok-trail.trail
    (sym c.of_wtf8.ensures ∙ c.in_ok-lead.ensures.steps)
    (sym c.of_wtf8-2.ensures ∙ c.in_ok-trail.ensures.steps)
    (sym c.pairs_with.ensures ∙ c.if-pairs_with.false)
