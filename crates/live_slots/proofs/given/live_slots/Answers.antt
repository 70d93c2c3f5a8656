use Rattle.std.proofs.Common.{◌≤◌, ℕ, List, [], Option, length, get_or, arith, sym, subst, ◌∙◌}
use Rattle.std.proofs.lemmas.List.{get_or_read}
use Rattle.std.specs.List.{AllByRecursion}
use Rattle.live_slots.proofs.OfTrees.{among_rows, extents_long, home_of_row, no_one, places_of_row, rows_in_order, rows_long}
use Rattle.live_slots.proofs.OneMoreGroup.{all_sized, none_stand, standing_more, starts_within}
use Rattle.live_slots.proofs.SlotsFound.{all_found}
use Rattle.live_slots.specs.Extents.{extents}
use Rattle.live_slots.specs.Leaders.{rows_of}
use Rattle.live_slots.specs.Marks.{IsGiven}
use Rattle.live_slots.specs.declared.leaders.Leader.{Leader}
use Rattle.place_list.specs.Bounds.{IsBelow}
use Rattle.place_list.specs.TableViews.{scopes_in}
use Rattle.place_list.specs.declared.tables.PlaceList.{PlaceList}
use Rattle.scope_marks.proofs.ScopesByNumber.{as_many_scopes, scopes_are_table}
use Rattle.live_slots.proofs.given.live_slots.Goals as goal

pub loop-group-init : goal.loop-group-init
loop-group-init g c = none_stand (scopes_in c.args.list.now) (extents (scopes_in c.args.list.now) (rows_of c.args.by_node.now c.args.leaders.now)) c.new-marks.result.items c.new-of_groups.result.items 0 c.new-marks.ensures.items c.new-of_groups.ensures.items

pub give_slot-requires-clause-from : goal.give_slot-requires-clause-from
give_slot-requires-clause-from g c =
    let h : c.asks_from-start.result ≤ length c.loop-group.marks.items =
    starts_within c.loop-group.marks.items (get_or c.args.leaders.now c.loop-group.group no_one).home c.loop-group.last c.loop-group.from c.asks_from-start.result c.loop-group.invariant.found.reached c.asks_from-start.ensures in
    omega (arith, h, c.loop-group.marks.ok)

pub give_slot-requires-clause-room : goal.give_slot-requires-clause-room
give_slot-requires-clause-room g c = λ k d l.
    all_sized (scopes_in c.args.list.now) (extents (scopes_in c.args.list.now) (rows_of c.args.by_node.now c.args.leaders.now)) c.loop-group.marks.items c.loop-group.of_groups.items c.loop-group.from c.loop-group.last c.loop-group.group c.loop-group.invariant.found k d l
    ∙ as_many_scopes c.args.list.now

pub give_slot-requires-clause-home : goal.give_slot-requires-clause-home
give_slot-requires-clause-home g c = c.requires.homes c.loop-group.group no_one c.loop-group-test.true

pub give_slot-requires-clause-places : goal.give_slot-requires-clause-places
give_slot-requires-clause-places g c =
    let P : List (Option ℕ) → Type 0 = AllByRecursion (IsBelow (length c.args.list.now.scopes.items)) in
    subst P (sym (c.as_slice-places.ensures ∙ c.index-by_node-leader.is))
    (c.requires.places (get_or c.args.leaders.now c.loop-group.group no_one).node c.index-by_node-leader.result (c.requires.nodes c.loop-group.group no_one c.loop-group-test.true))

pub loop-group-preserved : goal.loop-group-preserved
loop-group-preserved g c =
    let l : PlaceList = c.args.list.now in
    let rs : List Leader = c.args.leaders.now in
    let by : List (List (Option ℕ)) = c.args.by_node.now in
    let i : ℕ = c.loop-group.group in
    standing_more (scopes_in l) (scopes_are_table l c.requires.bounded) (rows_of by rs) (among_rows (scopes_in l) by rs c.requires.tree (length l.scopes.items) (sym (as_many_scopes l)) c.requires.homes) (rows_in_order (scopes_in l) by rs c.requires.tree)
    i (omega (arith, c.loop-group-test.true, rows_long by rs))
    c.loop-group.marks.items c.give_slot.new.marks.items c.loop-group.of_groups.items c.push.new.self.items c.loop-group.from c.loop-group.last (get_or rs i no_one).home c.asks_from-start.result c.in_ok-slot.slot
    c.loop-group.invariant (home_of_row by rs i no_one c.loop-group-test.true) c.asks_from-start.ensures c.as_slice-places.result.now
    (c.as_slice-places.ensures ∙ get_or_read by (get_or rs i no_one).node c.index-by_node-leader.result (c.requires.nodes i no_one c.loop-group-test.true) c.index-by_node-leader.is [] ∙ places_of_row by rs i no_one c.loop-group-test.true)
    (subst (λ (n : ℕ). IsGiven (scopes_in l) n c.loop-group.marks.items c.asks_from-start.result (get_or rs i no_one).home c.as_slice-places.result.now c.in_ok-slot.slot c.give_slot.new.marks.items) (sym (as_many_scopes l)) c.in_ok-slot.ensures)
    c.in_ok-push.ensures.items

pub returns-clause-slots : goal.returns-clause-slots
returns-clause-slots g c = all_found (scopes_in c.args.list.now) (extents (scopes_in c.args.list.now) (rows_of c.args.by_node.now c.args.leaders.now)) c.loop-group.marks.items c.loop-group.of_groups.items c.loop-group.from c.loop-group.last c.loop-group.group c.loop-group.invariant.found
    (omega (arith, c.loop-group-test.false, extents_long c.args.by_node.now c.args.leaders.now (scopes_in c.args.list.now)))

pub returns-clause-count : goal.returns-clause-count
returns-clause-count g c = omega (arith, c.len.ensures, c.loop-group.marks.ok, c.loop-group.invariant.counted)
