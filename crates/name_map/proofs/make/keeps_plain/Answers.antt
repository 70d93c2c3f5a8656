use Rattle.std.proofs.Common.{◌<◌, ◌≤◌, ◌∙◌, ℕ, List, Bor, false, get_or, length, map, sym, arith}
use Rattle.name_map.proofs.KeptSteps.{plain_all, plain_next, plain_not, plain_over_after, plain_over_before}
use Rattle.name_map.proofs.ListSteps.{lent_next, mapped_past, next_at, past_end}
use Rattle.name_map.proofs.make.keeps_plain.Goals as goal

abbrev texts : List (Bor (List ℕ)) → List (List ℕ)
texts xs = map (λ x. x.now) xs

pub returns-then-not-is_kept : goal.returns-then-not-is_kept
returns-then-not-is_kept c =
    let x = c.in-Some.x.now in
    let y = c.in-Some-get.y.now in
    let below : c.loop-i.i < length c.args.before.now = c.in-Some.ensures.lookup.3.0 in
    let within : c.loop-i.i < length c.args.after.now = c.in-Some-get.ensures.lookup.3.0 in
    plain_not c.args.plain.now (texts c.args.before.now) (texts c.args.after.now) c.loop-i.i c.loop-i.invariant (get_or c.args.plain.now c.loop-i.i false) x.now y.now
    (next_at c.args.plain.now c.loop-i.i false c.loop-i-test.true)
    (lent_next (λ (z : Bor (List ℕ)). z.now) c.args.before.now c.loop-i.i x below c.in-Some.ensures.lookup.1)
    (lent_next (λ (z : Bor (List ℕ)). z.now) c.args.after.now c.loop-i.i y within c.in-Some-get.ensures.lookup.1)
    (sym c.is_kept.ensures ∙ c.if-not-is_kept.true)

pub loop-i-preserved : goal.loop-i-preserved
loop-i-preserved c =
    let x = c.in-Some.x.now in
    let y = c.in-Some-get.y.now in
    let below : c.loop-i.i < length c.args.before.now = c.in-Some.ensures.lookup.3.0 in
    let within : c.loop-i.i < length c.args.after.now = c.in-Some-get.ensures.lookup.3.0 in
    plain_next c.args.plain.now (texts c.args.before.now) (texts c.args.after.now) c.loop-i.i c.loop-i.invariant (get_or c.args.plain.now c.loop-i.i false) x.now y.now
    (next_at c.args.plain.now c.loop-i.i false c.loop-i-test.true)
    (lent_next (λ (z : Bor (List ℕ)). z.now) c.args.before.now c.loop-i.i x below c.in-Some.ensures.lookup.1)
    (lent_next (λ (z : Bor (List ℕ)). z.now) c.args.after.now c.loop-i.i y within c.in-Some-get.ensures.lookup.1)
    (sym c.is_kept.ensures ∙ c.if-not-is_kept.false)

pub returns-after-loop-i : goal.returns-after-loop-i
returns-after-loop-i c =
    plain_all c.args.plain.now (texts c.args.before.now) (texts c.args.after.now) c.loop-i.i c.loop-i.invariant (past_end c.args.plain.now c.loop-i.i c.loop-i-test.false)

pub returns-in_default : goal.returns-in_default
returns-in_default c =
    let over : length c.args.before.now ≤ c.loop-i.i = c.in_default.ensures.lookup.3 in
    plain_over_before c.args.plain.now (texts c.args.before.now) (texts c.args.after.now) c.loop-i.i c.loop-i.invariant (mapped_past (λ (z : Bor (List ℕ)). z.now) c.args.before.now c.loop-i.i over)

pub returns-in_default-get : goal.returns-in_default-get
returns-in_default-get c =
    let over : length c.args.after.now ≤ c.loop-i.i = c.in_default-get.ensures.lookup.3 in
    plain_over_after c.args.plain.now (texts c.args.before.now) (texts c.args.after.now) c.loop-i.i c.loop-i.invariant (mapped_past (λ (z : Bor (List ℕ)). z.now) c.args.after.now c.loop-i.i over)
