use Rattle.std.specs.Prelude.{◌≤◌, ◌<◌, ◌*◌, ◌+◌, ℕ, List, get_or}
use Rattle.std.proofs.Common.{sym, subst, ap, ◌∙◌, rules}
use Rattle.class_tables.specs.Counts.{count_at}
use Rattle.class_tables.specs.Outwards.{outer}
use Rattle.class_tables.proofs.Counting.{AreCounts, bound_pushed, closed_is, count_pushed}
use Rattle.class_tables.proofs.counts.closed_counts.Goals as goal

pub loop-class-preserved : goal.loop-class-preserved
loop-class-preserved c =
    let ts = c.args.tables.now in
    let fs = c.args.flags.now in
    let next = outer c.args.bodies.now in
    let xs = c.loop-class.counts.items in
    let n = c.loop-class.class in
    let is = c.in_ok-push.ensures.items in
    record {
      counted = subst (λ (ys : List ℕ). AreCounts ts fs next ys (n + 1)) (sym is)
          (count_pushed ts fs next c.requires.fall xs n c.loop-class.invariant.len c.loop-class.invariant.counted c.count_at.result (c.count_at.ensures.count ∙ ap (λ (ys : List ℕ). count_at ts fs next ys n) c.as_slice.ensures.value));
      len = search rules;
      bounded = subst (λ (ys : List ℕ). (k : ℕ) → k < n + 1 → get_or ys k 0 ≤ 4294967296 * (k + 1)) (sym is)
          (bound_pushed ts fs next c.requires.fall xs n c.loop-class.invariant.len c.loop-class.invariant.bounded c.count_at.result c.count_at.ensures.bounded);
    }

pub returns-clause-counts : goal.returns-clause-counts
returns-clause-counts c = λ ps held told k h.
    c.loop-class.invariant.counted k (search rules)
    ∙ closed_is c.args.tables.now c.args.flags.now ps held told (outer c.args.bodies.now) c.requires.fall k (subst (λ (n : ℕ). k < n) (sym c.requires.flags) h)
