use Rattle.std.specs.Prelude.{length, Some}
use Rattle.std.proofs.Common.{sym, subst, ◌∙◌}
use Rattle.place_list.proofs.OutwardWalks.{lower}
use Rattle.place_list.specs.Bounds.{IsBelow}
use Rattle.place_list.specs.TableViews.{heads_at, lists_in}
use Rattle.scope_tables.specs.Reach.{is_open_body}
use Rattle.scope_tables.proofs.Reaching.{none_along, one_passes, passes_on}
use Rattle.scope_tables.proofs.reach.is_any_open.Goals as goal

pub returns-then-is_open : goal.returns-then-is_open
returns-then-is_open c =
    let entry = c.head-entry.result in
    one_passes (heads_at c.args.list.now) entry.scope c.loop-at.at entry.parent c.in-Some.number c.in-Some.is c.head-entry.ensures.outwards (is_open_body c.args.bodies.now c.args.heads.now c.args.node) _ c.loop-at.invariant.1
    (sym c.is_open.ensures ∙ c.if-is_open.true)

pub loop-at-preserved : goal.loop-at-preserved
loop-at-preserved c =
    let l = c.args.list.now in
    let entry = c.head-entry.result in
    let below : IsBelow (length l.heads.items) (Some c.in-Some.number) = subst (IsBelow (length l.heads.items)) c.in-Some.is c.loop-at.invariant.0 in (
      lower (length l.heads.items) c.in-Some.number entry.parent below c.head-entry.ensures.below,
      passes_on (heads_at l) entry.scope c.loop-at.at entry.parent c.in-Some.number c.in-Some.is c.head-entry.ensures.outwards (is_open_body c.args.bodies.now c.args.heads.now c.args.node) _ c.loop-at.invariant.1
          (sym c.is_open.ensures ∙ c.if-is_open.false),
    )

pub returns : goal.returns
returns c = none_along (lists_in c.args.list.now).heads c.loop-at.at c.in_default.is (is_open_body c.args.bodies.now c.args.heads.now c.args.node) _ c.loop-at.invariant.1
