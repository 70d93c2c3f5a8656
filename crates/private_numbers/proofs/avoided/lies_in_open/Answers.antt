use Rattle.std.proofs.Common.{◌∙◌, ◌||◌, ap, length, sym, subst, Some, Bool, Option, ℕ}
use Rattle.std.specs.List.{list_any}
use Rattle.class_tables.specs.PrivateTables.{list_in}
use Rattle.place_list.proofs.OutwardWalks.{lower}
use Rattle.place_list.specs.Bounds.{IsBelow}
use Rattle.place_list.specs.TableViews.{classes_at, places_in}
use Rattle.place_list.specs.Tables.{list_at}
use Rattle.scope_rules.specs.Evals.{is_open}
use Rattle.private_numbers.proofs.avoided.lies_in_open.Goals as goal

pub returns-then-is_open : goal.returns-then-is_open
returns-then-is_open c =
    let l = list_in c.args.table.now in
    let opens = is_open (places_in l) in
    sym (c.loop-at.invariant.same ∙ ap (λ (o : Option ℕ). list_any opens (classes_at l o)) c.in-Some.is
    ∙ ap (list_any opens) c.class_around-around.ensures.outwards
    ∙ ap (λ (b : Bool). b || list_any opens (classes_at l c.class_around-around.result)) (sym c.is_open.ensures ∙ c.if-is_open.true))

pub loop-at-preserved : goal.loop-at-preserved
loop-at-preserved c =
    let l = list_in c.args.table.now in
    let opens = is_open (places_in l) in
    let below : IsBelow (length l.class_bodies.items) (Some c.in-Some.class) = subst (IsBelow (length l.class_bodies.items)) c.in-Some.is c.loop-at.invariant.below in
    record {
      below = lower (length l.class_bodies.items) c.in-Some.class c.class_around-around.result below c.class_around-around.ensures.below;
      same = c.loop-at.invariant.same ∙ ap (λ (o : Option ℕ). list_any opens (classes_at l o)) c.in-Some.is
          ∙ ap (list_any opens) c.class_around-around.ensures.outwards
          ∙ ap (λ (b : Bool). b || list_any opens (classes_at l c.class_around-around.result)) (sym c.is_open.ensures ∙ c.if-is_open.false);
    }

pub returns : goal.returns
unfolding list_at
returns c =
    let l = list_in c.args.table.now in
    sym (c.loop-at.invariant.same ∙ ap (λ (o : Option ℕ). list_any (is_open (places_in l)) (classes_at l o)) c.in_default.is)
