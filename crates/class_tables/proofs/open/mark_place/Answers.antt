use Rattle.std.specs.Prelude.{Bool, ◌||◌, ◌&&◌, false, get_or}
use Rattle.std.proofs.Common.{sym, ap, ◌∙◌}
use Rattle.scope_rules.specs.Evals.{contains}
use Rattle.class_tables.specs.Outwards.{chain_from, outer}
use Rattle.class_tables.specs.Sights.{evals_in, sight_of}
use Rattle.class_tables.proofs.Opening.{or_false}
use Rattle.class_tables.proofs.open.mark_place.Goals as goal

pub returns-then-is_eval : goal.returns-then-is_eval
unfolding evals_in sight_of
returns-then-is_eval c = λ k l.
    c.mark.ensures k l
    ∙ sym (ap (λ (b : Bool). get_or c.args.flags.now k false || (b && contains (chain_from (outer c.args.bodies.now) c.args.place.now.setting.class_body) k)) (sym c.is_eval.ensures ∙ c.if-is_eval.true))

pub returns-else-is_eval : goal.returns-else-is_eval
unfolding evals_in sight_of
returns-else-is_eval c = λ k l.
    sym (or_false (get_or c.args.flags.now k false))
    ∙ sym (ap (λ (b : Bool). get_or c.args.flags.now k false || (b && contains (chain_from (outer c.args.bodies.now) c.args.place.now.setting.class_body) k)) (sym c.is_eval.ensures ∙ c.if-is_eval.false))
