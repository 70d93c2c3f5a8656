use Rattle.std.specs.Prelude.{◌≡◌, ◌≤◌, ◌+◌, ℕ, Bool, true, false, if◌then◌else◌}
use Rattle.std.proofs.Common.{sym, subst, ap, ◌∙◌, arith}
use Rattle.class_tables.specs.PrivateTables.{list_in}
use Rattle.name_rules.specs.PrivateNumbers.{open_names}
use Rattle.place_list.specs.TableViews.{classes_at, places_in}
use Rattle.scope_rules.specs.PrivateNames.{is_among}
use Rattle.private_numbers.proofs.Passing.{IsPassed, all_passed, nothing_passed, passed_step}
use Rattle.private_numbers.proofs.class_numbers.unlisted.Goals as goal

pub loop-number-init : goal.loop-number-init
loop-number-init c =
    let listed = open_names (places_in (list_in c.args.table.now)) (classes_at (list_in c.args.table.now) c.args.outwards) in
    record { passed = subst (IsPassed listed c.args.first 0 0) (sym c.new-numbers.ensures.items) (nothing_passed listed c.args.first); below = omega arith }

still_below : (avoided : Bool) (passed end n : ℕ) → passed ≤ end → (passed ≡ end → ⊥) → n ≡ (if avoided then passed else passed + 1) → n ≤ end
still_below true passed end n h f e = omega (arith, h, e)
still_below false passed end n h f e = omega (arith, h, f, e)

pub loop-number-preserved : goal.loop-number-preserved
loop-number-preserved c =
    let listed = open_names (places_in (list_in c.args.table.now)) (classes_at (list_in c.args.table.now) c.args.outwards) in
    record {
      passed = passed_step listed c.args.first c.loop-number.number c.loop-number.passed c.loop-number.numbers.items c.loop-number.invariant.passed c.is_avoided-avoided.result
          (sym (c.is_avoided-avoided.ensures ∙ ap (is_among listed) (c.as_str.ensures.text ∙ c.base54.ensures)))
          _ _ c.in_ok-passed.ensures.passed c.in_ok-passed.ensures.numbers;
      below = still_below c.is_avoided-avoided.result c.loop-number.passed c.args.end _ c.loop-number.invariant.below c.if-passed-end.false c.in_ok-passed.ensures.passed;
    }

pub returns-then-passed-end : goal.returns-then-passed-end
returns-then-passed-end c =
    let listed = open_names (places_in (list_in c.args.table.now)) (classes_at (list_in c.args.table.now) c.args.outwards) in
    all_passed listed c.args.first c.loop-number.number c.args.end c.loop-number.numbers.items
    (subst (λ (m : ℕ). IsPassed listed c.args.first c.loop-number.number m c.loop-number.numbers.items) c.if-passed-end.true c.loop-number.invariant.passed)
