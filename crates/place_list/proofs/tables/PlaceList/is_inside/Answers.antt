use Rattle.std.proofs.Common.{◌≡◌, ◌∙◌, ap, length, sym, subst, Some, None, Option, ℕ}
use Rattle.place_list.specs.Bounds.{IsBelow}
use Rattle.place_list.specs.TableViews.{scope_at}
use Rattle.tree_places.specs.Scopes.{is_inside}
use Rattle.place_list.proofs.OutwardWalks.{inside_end, inside_found, inside_on, lower}
use Rattle.place_list.proofs.tables.PlaceList.is_inside.Goals as goal

pub returns-then-is_number : goal.returns-then-is_number
returns-then-is_number c =
    let l = c.args.self.now in
    let outer = c.args.outer in
    let below : IsBelow (length l.scopes.items) (Some c.in-Some.scope) = subst (IsBelow (length l.scopes.items)) c.in-Some.is c.loop-at.invariant.0 in
    sym (c.loop-at.invariant.1 ∙ ap (λ (o : Option ℕ). is_inside (scope_at l o) (scope_at l outer)) c.in-Some.is
    ∙ inside_found l outer c.requires.outer c.in-Some.scope below (sym c.is_number.ensures ∙ c.if-is_number.true))

pub loop-at-preserved : goal.loop-at-preserved
loop-at-preserved c =
    let l = c.args.self.now in
    let outer = c.args.outer in
    let below : IsBelow (length l.scopes.items) (Some c.in-Some.scope) = subst (IsBelow (length l.scopes.items)) c.in-Some.is c.loop-at.invariant.0 in (
      lower (length l.scopes.items) c.in-Some.scope c.parent-at.result below c.parent-at.ensures.below,
      c.loop-at.invariant.1 ∙ ap (λ (o : Option ℕ). is_inside (scope_at l o) (scope_at l outer)) c.in-Some.is
          ∙ inside_on l outer c.requires.outer c.in-Some.scope c.parent-at.result below c.parent-at.ensures.outwards (sym c.is_number.ensures ∙ c.if-is_number.false),
    )

pub returns : goal.returns
returns c =
    let l = c.args.self.now in
    let outer = c.args.outer in
    let ended : c.loop-at.at ≡ None = c.in_default.is in
    sym (c.loop-at.invariant.1 ∙ ap (λ (o : Option ℕ). is_inside (scope_at l o) (scope_at l outer)) ended ∙ inside_end l outer c.requires.outer ∙ sym c.same_number.ensures)
