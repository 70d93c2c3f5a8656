use Rattle.std.specs.Prelude.{◌≡◌, ◌≤◌, ◌^◌, ℕ, List, Option, length, map, string_bytes}
use Rattle.std.proofs.Common.{ap, arith, refl, subst, sym, ◌∙◌}
use Rattle.mangle_options.specs.Settings.{options_in}
use Rattle.name_rules.specs.ChosenNames.{AreBelow, choices_of, place_number}
use Rattle.name_rules.specs.GivenNames.{free_names, slot_names}
use Rattle.name_rules.specs.Groups.{members}
use Rattle.new_names.proofs.AllNames.{all_new, as_many_choices, few_slots, free_are, groups_are, groups_long, names_are}
use Rattle.new_names.proofs.NumbersFound.{below_limit}
use Rattle.place_list.specs.TableViews.{places_in}
use Rattle.place_list.specs.declared.tables.PlaceList.{PlaceList}
use Rattle.tree_nodes.specs.Tree.{Text}
use Rattle.new_names.proofs.naming.new_names.Goals as goal

pub slots_of_groups-requires-clause-groups : goal.slots_of_groups-requires-clause-groups
slots_of_groups-requires-clause-groups g c =
    let o = options_in c.args.options.now c.args.top_level in
    let t = c.requires.list.tree in
    record { options = o; tree = t; are = groups_are o t c.args.tables.now.list c.requires.list.are c.as_slice.result.now c.in_ok-groups.groups.items c.as_slice.ensures.value c.in_ok-groups.ensures }

pub taken_names-requires-clause-long : goal.taken_names-requires-clause-long
taken_names-requires-clause-long g c =
    groups_long (options_in c.args.options.now c.args.top_level) c.requires.list.tree c.args.tables.now.list c.requires.list.are c.as_slice-2.result.now c.in_ok-groups.groups.items c.as_slice-2.ensures.value c.in_ok-groups.ensures

pub free_names-requires-clause-low : goal.free_names-requires-clause-low
free_names-requires-clause-low g c =
    let o = options_in c.args.options.now c.args.top_level in
    let t = c.requires.list.tree in
    let l = c.args.tables.now.list in
    let gs = c.as_slice.result.now in
    let groups = c.in_ok-groups.groups.items in
    let s = c.in_ok-found.found in
    let few : length s.weights.items ≤ length l.places.items = few_slots o t l c.requires.list.are gs groups c.as_slice.ensures.value c.in_ok-groups.ensures s (c.in_ok-found.ensures.slots o t (groups_are o t l c.requires.list.are gs groups c.as_slice.ensures.value c.in_ok-groups.ensures)) in
    omega (arith, few, c.len-slots.ensures, s.weights.ok, c.requires.few)

pub overflow_cast-slots : goal.overflow_cast-slots
overflow_cast-slots g c =
    let o = options_in c.args.options.now c.args.top_level in
    let t = c.requires.list.tree in
    let l = c.args.tables.now.list in
    let gs = c.as_slice.result.now in
    let groups = c.in_ok-groups.groups.items in
    let s = c.in_ok-found.found in
    let few : length s.weights.items ≤ length l.places.items = few_slots o t l c.requires.list.are gs groups c.as_slice.ensures.value c.in_ok-groups.ensures s (c.in_ok-found.ensures.slots o t (groups_are o t l c.requires.list.are gs groups c.as_slice.ensures.value c.in_ok-groups.ensures)) in
    omega (arith, few, c.len-slots.ensures, s.weights.ok, c.requires.few)

pub choices-requires-clause-long : goal.choices-requires-clause-long
choices-requires-clause-long g c =
    let o = options_in c.args.options.now c.args.top_level in
    let t = c.requires.list.tree in
    let l = c.args.tables.now.list in
    let gs = c.as_slice.result.now in
    let groups = c.in_ok-groups.groups.items in
    let s = c.in_ok-found.found in
    ap length c.as_slice-5.ensures.value
    ∙ as_many_choices o t l c.requires.list.are gs groups c.as_slice.ensures.value c.in_ok-groups.ensures s (c.in_ok-found.ensures.slots o t (groups_are o t l c.requires.list.are gs groups c.as_slice.ensures.value c.in_ok-groups.ensures)) c.in_ok-numbers.numbers.items
    (subst (λ (k : PlaceList). c.in_ok-numbers.numbers.items ≡ map (place_number (places_in k)) (places_in k)) c.requires.same c.in_ok-numbers.ensures)
    ∙ sym (ap length c.as_slice-6.ensures.value)

pub choices-requires-clause-below : goal.choices-requires-clause-below
choices-requires-clause-below g c =
    subst (AreBelow (2 ^ 31)) (sym c.as_slice-6.ensures.value)
    (below_limit c.limit-count.result (2 ^ 31) (omega (arith, c.if-count-gt2147483648.false)) c.in_ok-numbers.numbers.items (subst (AreBelow c.limit-count.result) c.as_slice-4.ensures.value c.limit-count.ensures.below))

pub choices-requires-clause-first : goal.choices-requires-clause-first
choices-requires-clause-first g c =
    let o = options_in c.args.options.now c.args.top_level in
    let t = c.requires.list.tree in
    let l = c.args.tables.now.list in
    let gs = c.as_slice.result.now in
    let groups = c.in_ok-groups.groups.items in
    let s = c.in_ok-found.found in
    let few : length s.weights.items ≤ length l.places.items = few_slots o t l c.requires.list.are gs groups c.as_slice.ensures.value c.in_ok-groups.ensures s (c.in_ok-found.ensures.slots o t (groups_are o t l c.requires.list.are gs groups c.as_slice.ensures.value c.in_ok-groups.ensures)) in
    omega (arith, few, c.len-slots.ensures, s.weights.ok, c.requires.few)

pub returns : goal.returns
unfolding options_in
returns g c = λ t is.
    let o = options_in c.args.options.now c.args.top_level in
    let l = c.args.tables.now.list in
    let gs = c.as_slice.result.now in
    let groups = c.in_ok-groups.groups.items in
    let s = c.in_ok-found.found in
    let slots = c.in_ok-found.ensures.slots o t (groups_are o t l is gs groups c.as_slice.ensures.value c.in_ok-groups.ensures) in
    let n : c.len-slots.result ≡ length s.weights.items = omega (arith, c.len-slots.ensures, s.weights.ok) in
    let free : List Text = map string_bytes c.in_ok-free.free.items in
    let given : List Text = map string_bytes c.in_ok-names.names.items in
    let numbers : List (Option ℕ) = c.in_ok-numbers.numbers.items in
    let free_told = free_are o t l is c.as_slice-2.result.now c.in_ok-groups.groups.items c.as_slice-2.ensures.value c.in_ok-groups.ensures c.in_ok-guard.guard c.in_ok-guard.ensures.names free c.args.options.now.debug c.len-slots.result refl c.in_ok-guard.ensures.few c.in_ok-free.ensures.free in
    let names_told = names_are o t l is gs groups c.as_slice.ensures.value c.in_ok-groups.ensures s slots free given (free_told ∙ ap (free_names o (members o t)) n) (c.in_ok-names.ensures.names ∙ ap (slot_names free) c.as_slice-3.ensures.value) in
    let numbers_told = subst (λ (k : PlaceList). numbers ≡ map (place_number (places_in k)) (places_in k)) c.requires.same c.in_ok-numbers.ensures in
    all_new o t l is gs groups c.as_slice.ensures.value c.in_ok-groups.ensures s slots _ given numbers c.limit-count.result (omega (arith, c.if-count-gt2147483648.false)) names_told numbers_told (subst (AreBelow c.limit-count.result) c.as_slice-4.ensures.value c.limit-count.ensures.below)
    c.in_ok-push_short_names.ensures n
    (c.in_ok-choices.ensures ∙ ap (λ (xs : List (Option ℕ)). choices_of c.len-slots.result xs c.as_slice-6.result.now) c.as_slice-5.ensures.value ∙ ap (choices_of c.len-slots.result s.places.items) c.as_slice-6.ensures.value)
    refl
