use Rattle.std.proofs.Common.{◌<◌, ◌≤◌, ◌∙◌, length, subst, sym, take}
use Rattle.std.specs.BTreeMap.{btree_map_len}
use Rattle.std.specs.List.{AllByRecursion}
use Rattle.std.proofs.lemmas.Result.{IfOk-weaker}
use Rattle.place_list.proofs.Numbering.{HaveNumbers, all_numbered, numbers_below, numbers_stay, numbers_tell_names, one_number_more, same_length, views_stay}
use Rattle.place_list.specs.Names.{at_name}
use Rattle.place_list.specs.declared.tables.PlaceEntry.{PlaceEntry}
use Rattle.place_list.proofs.names.number_names.Goals as goal

pub number_of-requires : goal.number_of-requires
number_of-requires c = record { numbering = c.loop-i.invariant.numbering }

pub loop-i-preserved : goal.loop-i-preserved
loop-i-preserved c =
    let es = c.loop-i.places.items in
    let i = c.loop-i.i in
    let x : PlaceEntry = c.index-place.result.now in
    let inv = c.loop-i.invariant in
    let told = c.in_ok-name_number.ensures in
    let inside : i < length es = subst (λ n. i < n) inv.ends c.loop-i-test.true in
    record {
      ends = inv.ends ∙ sym (same_length es i x c.in_ok-name_number.name_number);
      same = views_stay es i x c.in_ok-name_number.name_number c.index-place.ensures ∙ inv.same;
      numbering = told.numbering;
      numbered = one_number_more (at_name c.number_of.new.numbers) es i x c.in_ok-name_number.name_number inside (numbers_stay _ _ told.kept (take i es) inv.numbered) told.number;
    }

pub returns-clause-same : goal.returns-clause-same
returns-clause-same c = IfOk-weaker c.number.result _ _ (λ n h. c.loop-i.invariant.same) c.number.ensures

pub returns-clause-numbered : goal.returns-clause-numbered
returns-clause-numbered c =
    let es = c.loop-i.places.items in
    let inv = c.loop-i.invariant in
    let over : length es ≤ c.loop-i.i = subst (λ n. n ≤ c.loop-i.i) inv.ends c.loop-i-test.false in
    let all : HaveNumbers (at_name c.loop-i.numbers) es = all_numbered (at_name c.loop-i.numbers) es c.loop-i.i over inv.numbered in
    IfOk-weaker c.number.result _ _ (λ n h. numbers_tell_names (at_name c.loop-i.numbers) (btree_map_len c.loop-i.numbers) es inv.numbering all) c.number.ensures

pub returns-clause-below : goal.returns-clause-below
returns-clause-below c =
    let es = c.loop-i.places.items in
    let inv = c.loop-i.invariant in
    let over : length es ≤ c.loop-i.i = subst (λ n. n ≤ c.loop-i.i) inv.ends c.loop-i-test.false in
    let all : HaveNumbers (at_name c.loop-i.numbers) es = all_numbered (at_name c.loop-i.numbers) es c.loop-i.i over inv.numbered in
    IfOk-weaker c.number.result _ _
    (λ n h. subst (λ k. AllByRecursion (λ (e : PlaceEntry). e.name_number < k) es) (sym (h ∙ c.len.ensures.len)) (numbers_below (at_name c.loop-i.numbers) (btree_map_len c.loop-i.numbers) es inv.numbering all))
    c.number.ensures
