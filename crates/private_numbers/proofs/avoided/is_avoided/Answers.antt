use Rattle.std.proofs.Common.{◌∙◌, ◌||◌, ap, length, sym, subst, Some, Bool, List, Option, ℕ}
use Rattle.class_tables.specs.PrivateTables.{list_in}
use Rattle.name_rules.specs.PrivateNumbers.{open_names}
use Rattle.place_list.proofs.OutwardWalks.{lower}
use Rattle.place_list.specs.Bounds.{IsBelow}
use Rattle.place_list.specs.TableViews.{classes_at, places_in}
use Rattle.place_list.specs.Tables.{list_at}
use Rattle.scope_rules.specs.PrivateNames.{is_among}
use Rattle.private_numbers.proofs.OpenNames.{avoided_first}
use Rattle.private_numbers.proofs.avoided.is_avoided.Goals as goal

pub returns-then-is_kept_by : goal.returns-then-is_kept_by
returns-then-is_kept_by c =
    let l = list_in c.args.table.now in
    let ps = places_in l in
    let x = c.args.name.now in
    sym (c.loop-at.invariant.same ∙ ap (λ (o : Option ℕ). is_among (open_names ps (classes_at l o)) x) c.in-Some.is
    ∙ ap (λ (cs : List ℕ). is_among (open_names ps cs) x) c.class_around-around.ensures.outwards
    ∙ avoided_first ps c.in-Some.class (classes_at l c.class_around-around.result) x
    ∙ ap (λ (b : Bool). b || is_among (open_names ps (classes_at l c.class_around-around.result)) x) (sym c.is_kept_by.ensures ∙ c.if-is_kept_by.true))

pub loop-at-preserved : goal.loop-at-preserved
loop-at-preserved c =
    let l = list_in c.args.table.now in
    let ps = places_in l in
    let x = c.args.name.now in
    let below : IsBelow (length l.class_bodies.items) (Some c.in-Some.class) = subst (IsBelow (length l.class_bodies.items)) c.in-Some.is c.loop-at.invariant.below in
    record {
      below = lower (length l.class_bodies.items) c.in-Some.class c.class_around-around.result below c.class_around-around.ensures.below;
      same = c.loop-at.invariant.same ∙ ap (λ (o : Option ℕ). is_among (open_names ps (classes_at l o)) x) c.in-Some.is
          ∙ ap (λ (cs : List ℕ). is_among (open_names ps cs) x) c.class_around-around.ensures.outwards
          ∙ avoided_first ps c.in-Some.class (classes_at l c.class_around-around.result) x
          ∙ ap (λ (b : Bool). b || is_among (open_names ps (classes_at l c.class_around-around.result)) x) (sym c.is_kept_by.ensures ∙ c.if-is_kept_by.false);
    }

pub returns : goal.returns
unfolding list_at is_among open_names
returns c =
    let l = list_in c.args.table.now in
    sym (c.loop-at.invariant.same ∙ ap (λ (o : Option ℕ). is_among (open_names (places_in l) (classes_at l o)) c.args.name.now) c.in_default.is)
