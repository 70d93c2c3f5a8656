use Rattle.std.specs.Prelude.{◌<◌, ℕ, ◌||◌, false, length, Option, IfSome, get_or}
use Rattle.std.proofs.Common.{sym, ap, ◌∙◌, subst}
use Rattle.std.proofs.lemmas.List.{length-set}
use Rattle.scope_rules.specs.Evals.{contains}
use Rattle.class_tables.specs.Outwards.{chain_from, outer}
use Rattle.class_tables.proofs.Opening.{marks_on, or_false, outer_below}
use Rattle.class_tables.proofs.open.mark.Goals as goal

pub loop-at-preserved : goal.loop-at-preserved
loop-at-preserved c =
    let next = outer c.args.bodies.now in
    let n = c.in-Some.c in
    let h : n < length c.loop-at.flags = subst (λ (o : Option ℕ). IfSome o (λ k. k < length c.loop-at.flags)) c.in-Some.is c.loop-at.invariant.below in
    let s = length-set c.loop-at.flags n in
    record {
      below = subst (λ (m : ℕ). IfSome c.outer-at.result (λ k. k < m)) (sym (s _)) (outer_below next c.requires.fall n (length c.loop-at.flags) h c.outer-at.result c.outer-at.ensures);
      len = s _ ∙ c.loop-at.invariant.len;
      marked = λ k l. marks_on next c.requires.fall c.loop-at.flags c.loop-at.at n c.in-Some.is h c.outer-at.result c.outer-at.ensures k
          ∙ c.loop-at.invariant.marked k (subst (λ (m : ℕ). k < m) (s _) l);
    }

pub returns : goal.returns
unfolding contains chain_from
returns c = λ k l.
    sym (or_false (get_or c.loop-at.flags k false))
    ∙ sym (ap (λ (o : Option ℕ). get_or c.loop-at.flags k false || contains (chain_from (outer c.args.bodies.now) o) k) c.in_default.is)
    ∙ c.loop-at.invariant.marked k (subst (λ (m : ℕ). k < m) (sym c.loop-at.invariant.len) l)
