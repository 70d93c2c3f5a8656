use Rattle.std.specs.Prelude.{ℕ, length, Some}
use Rattle.std.proofs.Common.{sym, subst, ◌∙◌}
use Rattle.place_list.proofs.OutwardWalks.{lower}
use Rattle.place_list.specs.TableViews.{lists_in, scope_at}
use Rattle.scope_tables.specs.DeclarationsAt.{binder_at}
use Rattle.scope_tables.specs.Views.{IsScope}
use Rattle.scope_tables.proofs.Numbers.{Next, scope_outwards}
use Rattle.scope_tables.proofs.Outward.{found_at, go_on, nearest_ends}
use Rattle.scope_tables.proofs.declarations.Declarations.nearest_binder.Goals as goal

pub returns-then-is_some : goal.returns-then-is_some
returns-then-is_some c =
    let l = c.args.list.now in
    let below : IsScope l (Some c.in-Some.s) = subst (IsScope l) c.in-Some.is c.loop-at.invariant.0 in
    let w : Next (scope_at l) c.in-Some.s = scope_outwards l c.requires.bounded c.in-Some.s below in
    found_at (scope_at l) c.in-Some.s c.loop-at.at w.0 c.in-Some.is w.1.0 (λ (s : ℕ). binder_at c.args.self.now (Some s) c.args.name) _ c.loop-at.invariant.1 _
    c.binder-found.ensures (sym c.is_some.ensures ∙ c.if-is_some.true)

pub loop-at-preserved : goal.loop-at-preserved
loop-at-preserved c =
    let l = c.args.list.now in
    let below : IsScope l (Some c.in-Some.s) = subst (IsScope l) c.in-Some.is c.loop-at.invariant.0 in (
      lower (length l.scopes.items) c.in-Some.s c.parent-at.result below c.parent-at.ensures.below,
      go_on (scope_at l) c.in-Some.s c.loop-at.at c.parent-at.result c.in-Some.is c.parent-at.ensures.outwards (λ (s : ℕ). binder_at c.args.self.now (Some s) c.args.name) _ c.loop-at.invariant.1 _
          c.binder-found.ensures (sym c.is_some.ensures ∙ c.if-is_some.false),
    )

pub returns : goal.returns
returns c = nearest_ends (lists_in c.args.list.now).scopes c.loop-at.at c.in_default.is (λ (s : ℕ). binder_at c.args.self.now (Some s) c.args.name) _ c.loop-at.invariant.1
