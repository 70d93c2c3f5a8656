use Rattle.std.specs.Prelude.{◌≡◌, ℕ, false, true, length, Some}
use Rattle.std.proofs.Common.{sym, subst, ◌∙◌}
use Rattle.place_list.proofs.OutwardWalks.{lower}
use Rattle.place_list.specs.Outwards.{same_number}
use Rattle.place_list.specs.TableViews.{lists_in, scope_at}
use Rattle.scope_tables.specs.DeclarationsAt.{single_at}
use Rattle.scope_tables.specs.Views.{IsScope}
use Rattle.scope_tables.proofs.Numbers.{Next, scope_outwards}
use Rattle.scope_tables.proofs.Outward.{at_the_home, before_ends, goes_on, passes_below}
use Rattle.scope_tables.proofs.crossing.is_single_below.Goals as goal

pub returns-then-same_number : goal.returns-then-same_number
returns-then-same_number c =
    let l = c.args.list.now in
    let below : IsScope l (Some c.in-Some.s) = subst (IsScope l) c.in-Some.is c.loop-at.invariant.0 in
    let w : Next (scope_at l) c.in-Some.s = scope_outwards l c.requires.bounded c.in-Some.s below in
    let at_home : same_number (Some c.in-Some.s) c.args.home ≡ true = sym c.same_number.ensures ∙ c.if-same_number.true in
    at_the_home (scope_at l) c.in-Some.s c.loop-at.at w.0 c.in-Some.is w.1.0 (λ (s : ℕ). single_at c.args.declarations.now (Some s) c.args.name) c.args.home _ c.loop-at.invariant.1 at_home

pub returns-then-is_single : goal.returns-then-is_single
returns-then-is_single c =
    let l = c.args.list.now in
    let below : IsScope l (Some c.in-Some.s) = subst (IsScope l) c.in-Some.is c.loop-at.invariant.0 in
    let w : Next (scope_at l) c.in-Some.s = scope_outwards l c.requires.bounded c.in-Some.s below in
    let inside : same_number (Some c.in-Some.s) c.args.home ≡ false = sym c.same_number.ensures ∙ c.if-same_number.false in
    passes_below (scope_at l) c.in-Some.s c.loop-at.at w.0 c.in-Some.is w.1.0 (λ (s : ℕ). single_at c.args.declarations.now (Some s) c.args.name) c.args.home _ c.loop-at.invariant.1 inside
    (sym c.is_single.ensures ∙ c.if-is_single.true)

pub loop-at-preserved : goal.loop-at-preserved
loop-at-preserved c =
    let l = c.args.list.now in
    let below : IsScope l (Some c.in-Some.s) = subst (IsScope l) c.in-Some.is c.loop-at.invariant.0 in
    let inside : same_number (Some c.in-Some.s) c.args.home ≡ false = sym c.same_number.ensures ∙ c.if-same_number.false in (
      lower (length l.scopes.items) c.in-Some.s c.parent-at.result below c.parent-at.ensures.below,
      goes_on (scope_at l) c.in-Some.s c.loop-at.at c.parent-at.result c.in-Some.is c.parent-at.ensures.outwards (λ (s : ℕ). single_at c.args.declarations.now (Some s) c.args.name) c.args.home _ c.loop-at.invariant.1 inside
          (sym c.is_single.ensures ∙ c.if-is_single.false),
    )

pub returns : goal.returns
returns c = before_ends (lists_in c.args.list.now).scopes c.loop-at.at c.in_default.is (λ (s : ℕ). single_at c.args.declarations.now (Some s) c.args.name) c.args.home _ c.loop-at.invariant.1
