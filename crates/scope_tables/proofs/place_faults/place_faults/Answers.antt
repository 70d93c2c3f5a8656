use Rattle.std.specs.Prelude.{◌<◌, ◌≤◌, ℕ, List, [], length, take}
use Rattle.std.proofs.Common.{refl, ap, sym, subst, ◌∙◌, take_all}
use Rattle.std.proofs.lemmas.List.{take_more}
use Rattle.place_list.specs.declared.tables.PlaceEntry.{PlaceEntry}
use Rattle.scope_tables.specs.EarlierPlaces.{HoldsEarlier}
use Rattle.scope_tables.specs.FaultsOf.{each_after, faults_of, place_faults}
use Rattle.scope_tables.specs.Views.{places_of}
use Rattle.scope_tables.proofs.EachPlace.{binding_read, bound_count, faults_more}
use Rattle.scope_tables.proofs.FirstPlaces.{contains_at}
use Rattle.scope_tables.proofs.place_faults.place_faults.Goals as goal

pub loop-i-init : goal.loop-i-init
unfolding each_after
loop-i-init c = record { ends = refl; found = c.new-found.ensures.items; earlier = c.new-earlier.ensures c.args.list.now c.args.places.now }

pub bounds-bound_places-i : goal.bounds-bound_places-i
bounds-bound_places-i c =
    let inside : c.loop-i.i < length c.args.places.now = subst (λ (n : ℕ). c.loop-i.i < n) c.loop-i.invariant.ends c.loop-i-test.true in
    subst (λ (n : ℕ). c.loop-i.i < n) (sym (bound_count c.args.list.now c.args.bound_places.now c.args.places.now c.requires.bound)) inside

pub faults_of-requires : goal.faults_of-requires
faults_of-requires c =
    let inside : c.loop-i.i < length c.args.places.now = subst (λ (n : ℕ). c.loop-i.i < n) c.loop-i.invariant.ends c.loop-i-test.true in
    c.requires.stand.stands _ (contains_at c.args.places.now c.loop-i.i _ inside)

pub put-requires : goal.put-requires
put-requires c =
    let inside : c.loop-i.i < length c.args.places.now = subst (λ (n : ℕ). c.loop-i.i < n) c.loop-i.invariant.ends c.loop-i-test.true in
    c.requires.stand.stands _ (contains_at c.args.places.now c.loop-i.i _ inside)

pub loop-i-preserved : goal.loop-i-preserved
loop-i-preserved c =
    let l = c.args.list.now in
    let es = c.args.places.now in
    let bs = c.args.bound_places.now in
    let i = c.loop-i.i in
    let inside : i < length es = subst (λ (n : ℕ). i < n) c.loop-i.invariant.ends c.loop-i-test.true in
    let inside_bound : i < length bs = subst (λ (n : ℕ). i < n) (sym (bound_count l bs es c.requires.bound)) inside in
    let so_far = c.loop-i.invariant in
    record {
      ends = so_far.ends;
      found = faults_more l es i _ inside c.loop-i.found.items _ _ so_far.found
          (c.faults_of.ensures bs es (take i es) (contains_at es i _ inside) c.requires.declarations c.in_ok-tables.ensures c.requires.bound so_far.earlier (binding_read l bs es c.requires.bound i _ _ inside_bound inside))
          c.in_ok-push.ensures.items;
      earlier = subst (λ (qs : List PlaceEntry). HoldsEarlier l es qs c.put.new.self) (sym (take_more es i _ inside)) (c.in_ok-put.ensures es (take i es) c.requires.stand (contains_at es i _ inside) so_far.earlier);
    }

pub returns : goal.returns
unfolding place_faults
returns c =
    let l = c.args.list.now in
    let es = c.args.places.now in
    let over : length es ≤ c.loop-i.i = subst (λ (n : ℕ). n ≤ c.loop-i.i) c.loop-i.invariant.ends c.loop-i-test.false in
    c.loop-i.invariant.found ∙ ap (λ (qs : List PlaceEntry). each_after (faults_of (places_of l es)) [] (places_of l qs)) (take_all c.loop-i.i es over)
