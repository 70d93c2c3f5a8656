use Rattle.std.proofs.Common.{◌≡◌, ◌∙◌, ℕ, List, Bool, false, true, true≢false, Bor, map, ap, ap₂, subst, sym}
use Rattle.std.specs.List.{AllByRecursion}
use Rattle.name_map.proofs.ListedPairs.{pairs_marks}
use Rattle.name_map.proofs.MadeMaps.{made_fits, made_restores}
use Rattle.name_map.specs.Made.{IsMapOf}
use Rattle.name_map.specs.Undoing.{IsOldName, IsSized, Undoing, differing, taken_off}
use Rattle.name_map.specs.declared.spots.Pair.{Pair}
use Rattle.tree_nodes.specs.Tree.{alone}
use Rattle.tree_places.specs.Places.{names}
use Rattle.tree_places.specs.Renaming.{marks}
use Rattle.name_map.proofs.make.make_map.Goals as goal

abbrev texts : List (Bor (List ℕ)) → List (List ℕ)
texts xs = map (λ x. x.now) xs

abbrev marked : List Pair → List Bool
marked ps = map (λ (p : Pair). p.marked) ps

pub returns-then-not-branch-clause-not_renamed : goal.returns-then-not-branch-clause-not_renamed
returns-then-not-branch-clause-not_renamed c = λ e r. true≢false (sym (c.in_ok-is_renamed.ensures.told.1 r) ∙ c.if-not-branch.true)

pub returns-clause-made : goal.returns-clause-made
returns-clause-made c =
    let s = c.in_ok-sides.ensures in
    record {
      renamed = c.in_ok-is_renamed.ensures.told.0 c.if-not-branch.false;
      names = ap (λ (m : Undoing). m.names) c.new.ensures ∙ c.in_ok-names.ensures.names
          ∙ ap₂ (differing 0) (ap texts c.as_slice.ensures.value ∙ s.before) (ap texts c.as_slice-2.ensures.value ∙ s.after);
      marks = ap (λ (m : Undoing). m.marks) c.new.ensures ∙ c.in_ok-taken.ensures.taken
          ∙ ap₂ (λ bs ps. taken_off 0 bs (marked ps)) (c.as_slice-3.ensures.value ∙ s.marks) (c.as_slice-4.ensures.value ∙ s.pairs)
          ∙ ap (taken_off 0 (marks (alone c.args.before.now))) (pairs_marks (alone c.args.after.now));
    }

pub returns-clause-sized : goal.returns-clause-sized
returns-clause-sized c = record {
  names = subst (AllByRecursion IsOldName) (sym (ap (λ (m : Undoing). m.names) c.new.ensures)) c.in_ok-names.ensures.sized;
  marks = subst (AllByRecursion IsSized) (sym (ap (λ (m : Undoing). m.marks) c.new.ensures)) c.in_ok-taken.ensures.sized;
}

pub returns-clause-fits : goal.returns-clause-fits
returns-clause-fits c =
    let s = c.in_ok-sides.ensures in
    let made : IsMapOf c.args.before.now c.args.after.now c.new.result = record {
      renamed = c.in_ok-is_renamed.ensures.told.0 c.if-not-branch.false;
      names = ap (λ (m : Undoing). m.names) c.new.ensures ∙ c.in_ok-names.ensures.names
          ∙ ap₂ (differing 0) (ap texts c.as_slice.ensures.value ∙ s.before) (ap texts c.as_slice-2.ensures.value ∙ s.after);
      marks = ap (λ (m : Undoing). m.marks) c.new.ensures ∙ c.in_ok-taken.ensures.taken
          ∙ ap₂ (λ bs ps. taken_off 0 bs (marked ps)) (c.as_slice-3.ensures.value ∙ s.marks) (c.as_slice-4.ensures.value ∙ s.pairs)
          ∙ ap (taken_off 0 (marks (alone c.args.before.now))) (pairs_marks (alone c.args.after.now));
    } in
    made_fits c.args.before.now c.args.after.now c.new.result made c.in_ok-is_renamed.ensures.program

pub returns-clause-restores : goal.returns-clause-restores
returns-clause-restores c =
    let s = c.in_ok-sides.ensures in
    made_restores c.args.before.now c.args.after.now c.new.result record {
      renamed = c.in_ok-is_renamed.ensures.told.0 c.if-not-branch.false;
      names = ap (λ (m : Undoing). m.names) c.new.ensures ∙ c.in_ok-names.ensures.names
          ∙ ap₂ (differing 0) (ap texts c.as_slice.ensures.value ∙ s.before) (ap texts c.as_slice-2.ensures.value ∙ s.after);
      marks = ap (λ (m : Undoing). m.marks) c.new.ensures ∙ c.in_ok-taken.ensures.taken
          ∙ ap₂ (λ bs ps. taken_off 0 bs (marked ps)) (c.as_slice-3.ensures.value ∙ s.marks) (c.as_slice-4.ensures.value ∙ s.pairs)
          ∙ ap (taken_off 0 (marks (alone c.args.before.now))) (pairs_marks (alone c.args.after.now));
    }
