use Rattle.std.specs.Prelude.{Bool, Some, cond}
use Rattle.std.proofs.Common.{ap, sym, ◌∙◌}
use Rattle.scope_tables.specs.Keys.{at_key}
use Rattle.scope_tables.proofs.Puts.{is_eq_pair, put_absent, put_present}
use Rattle.scope_tables.proofs.firsts.put_first.Goals as goal

pub returns-in_ok-insert : goal.returns-in_ok-insert
returns-in_ok-insert c = λ s x.
    c.in_ok-insert.ensures.updates.0 (record { within = s; name = x })
    ∙ ap (λ (b : Bool). cond b (Some c.args.node) (at_key c.args.firsts.now s x)) (is_eq_pair c.args.key.within s c.args.key.name x)
    ∙ put_absent (at_key c.args.firsts.now) c.args.key.within c.args.key.name c.args.node s x (sym c.contains_key.ensures ∙ c.if-not-contains_key.true)

pub returns-else-not-contains_key : goal.returns-else-not-contains_key
returns-else-not-contains_key c = λ s x.
    put_present (at_key c.args.firsts.now) c.args.key.within c.args.key.name c.args.node s x (sym c.contains_key.ensures ∙ c.if-not-contains_key.false)
