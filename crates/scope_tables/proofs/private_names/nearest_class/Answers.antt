use Rattle.std.specs.Prelude.{ℕ, suc, length, Some}
use Rattle.std.proofs.Common.{sym, subst, ◌∙◌}
use Rattle.place_list.proofs.OutwardWalks.{lower}
use Rattle.place_list.specs.Bounds.{IsBelow}
use Rattle.place_list.specs.TableViews.{classes_at, lists_in}
use Rattle.scope_tables.specs.Keys.{at_key}
use Rattle.scope_tables.proofs.Numbers.{Next, class_outwards}
use Rattle.scope_tables.proofs.Outward.{found_at, go_on, nearest_ends}
use Rattle.scope_tables.proofs.private_names.nearest_class.Goals as goal

pub returns-then-is_some : goal.returns-then-is_some
returns-then-is_some c =
    let l = c.args.list.now in
    let below : IsBelow (length l.class_bodies.items) (Some c.in-Some.c) = subst (IsBelow (length l.class_bodies.items)) c.in-Some.is c.loop-at.invariant.0 in
    let w : Next (classes_at l) c.in-Some.c = class_outwards l c.requires.bounded c.in-Some.c below in
    found_at (classes_at l) c.in-Some.c c.loop-at.at w.0 c.in-Some.is w.1.0 (λ (k : ℕ). at_key c.args.declarations.now (suc k) c.args.name) _ c.loop-at.invariant.1 _
    c.declared_in-found.ensures (sym c.is_some.ensures ∙ c.if-is_some.true)

pub loop-at-preserved : goal.loop-at-preserved
loop-at-preserved c =
    let l = c.args.list.now in
    let below : IsBelow (length l.class_bodies.items) (Some c.in-Some.c) = subst (IsBelow (length l.class_bodies.items)) c.in-Some.is c.loop-at.invariant.0 in (
      lower (length l.class_bodies.items) c.in-Some.c c.outer_class-at.result below c.outer_class-at.ensures.below,
      go_on (classes_at l) c.in-Some.c c.loop-at.at c.outer_class-at.result c.in-Some.is c.outer_class-at.ensures.outwards (λ (k : ℕ). at_key c.args.declarations.now (suc k) c.args.name) _ c.loop-at.invariant.1 _
          c.declared_in-found.ensures (sym c.is_some.ensures ∙ c.if-is_some.false),
    )

pub returns : goal.returns
returns c = nearest_ends (lists_in c.args.list.now).class_bodies c.loop-at.at c.in_default.is (λ (k : ℕ). at_key c.args.declarations.now (suc k) c.args.name) _ c.loop-at.invariant.1
