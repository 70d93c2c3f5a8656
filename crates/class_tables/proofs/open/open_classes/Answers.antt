use Rattle.std.specs.Prelude.{◌≡◌, ◌<◌, ℕ, Bool, List, false, get_or, length}
use Rattle.std.proofs.Common.{sym, subst, ◌∙◌, ap, rules}
use Rattle.class_tables.proofs.Holding.{written_back}
use Rattle.class_tables.proofs.Opening.{all_opened, known_here, opened_more}
use Rattle.class_tables.proofs.open.open_classes.Goals as goal

pub mark_place-requires-clause-known : goal.mark_place-requires-clause-known
mark_place-requires-clause-known c =
    known_here c.args.places.now c.loop-place.place-index _ (length c.args.bodies.now) _ c.loop-place-test.true c.requires.classes (ap length c.as_mut_slice.ensures.value ∙ c.loop-place.invariant.len)

pub loop-place-preserved : goal.loop-place-preserved
loop-place-preserved c =
    let l : length c.mark_place.new.flags ≡ c.loop-place.«open».len = search rules in
    let back = written_back c.loop-place.«open».len c.mark_place.new.flags c.loop-place.«open».items l in
    let same = c.as_mut_slice.ensures.value in
    record {
      opened = λ k h. ap (λ (bs : List Bool). get_or bs k false) back
          ∙ opened_more c.args.bodies.now c.args.places.now c.loop-place.place-index _ c.loop-place-test.true k _ _
          (c.mark_place.ensures k (subst (λ (n : ℕ). k < n) (sym (ap length same ∙ c.loop-place.invariant.len)) h))
          (ap (λ (bs : List Bool). get_or bs k false) same ∙ c.loop-place.invariant.opened k h);
      len = ap length back ∙ (c.mark_place.auto.flags ∙ ap length same ∙ c.loop-place.invariant.len);
    }

pub returns-clause-open : goal.returns-clause-open
returns-clause-open c = λ ps are k h.
    c.loop-place.invariant.opened k h ∙ all_opened c.args.bodies.now c.args.places.now c.loop-place.place-index c.loop-place-test.false ps are k
