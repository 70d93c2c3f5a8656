use Rattle.std.specs.Prelude.{map}
use Rattle.std.proofs.Common.{sym, ap, ◌∙◌, take_all}
use Rattle.std.proofs.lemmas.List.{map-append}
use Rattle.place_list.specs.TableViews.{place_in}
use Rattle.place_list.specs.declared.tables.PlaceEntry.{PlaceEntry}
use Rattle.std.proofs.lemmas.Simd.{map-map}
use Rattle.scope_rules.specs.Bindings.{Bound, binding, bound, same_name}
use Rattle.scope_tables.specs.Views.{bound_of, bounds_of, places_of}
use Rattle.scope_tables.proofs.BindingCases.{bound_same, mapped_more}
use Rattle.scope_tables.proofs.FirstPlaces.{contains_at}
use Rattle.scope_tables.proofs.Reaching.{none_stand, one_more_stands}
use Rattle.scope_tables.proofs.resolve.bound_places.Goals as goal
use Rattle.tree_nodes.specs.Tree.{Text}
use Rattle.tree_places.specs.Places.{Place}

pub binding-requires : goal.binding-requires
binding-requires c = c.requires.stand.stands _ (contains_at c.args.places.now c.loop-place.place-index _ c.loop-place-test.true)

pub loop-place-init : goal.loop-place-init
loop-place-init c = record { bound = ap (bounds_of c.args.list.now) c.new-bound.ensures.items; stand = none_stand c.args.list.now c.new-bound.result.items c.new-bound.ensures.items }

pub loop-place-preserved : goal.loop-place-preserved
unfolding bound_of
loop-place-preserved c =
    let l = c.args.list.now in
    let all = c.args.places.now in
    let view : PlaceEntry → Bound Text = λ q. record { place = place_in l q; binding = binding same_name (places_of l all) (place_in l q) } in
    let among = contains_at all c.loop-place.place-index _ c.loop-place-test.true in
    record {
      bound = mapped_more view all c.loop-place.place-index _ c.loop-place-test.true (bounds_of l c.loop-place.bound.items) _ c.loop-place.invariant.bound _
          (bound_same _ _ _ (c.binding.ensures all c.requires.declarations among))
          (ap (bounds_of l) c.in_ok-push.ensures.items ∙ map-append (bound_of l) c.loop-place.bound.items _);
      stand = one_more_stands l c.loop-place.bound.items _ (c.requires.stand.stands _ among) c.loop-place.invariant.stand c.push.new.self.items c.in_ok-push.ensures.items;
    }

pub returns-clause-bound : goal.returns-clause-bound
unfolding bound
returns-clause-bound c =
    let l = c.args.list.now in
    let all = c.args.places.now in
    let view : PlaceEntry → Bound Text = λ q. record { place = place_in l q; binding = binding same_name (places_of l all) (place_in l q) } in
    let mark : Place → Bound Text = λ p. record { place = p; binding = binding same_name (places_of l all) p } in
    c.loop-place.invariant.bound
    ∙ ap (map view) (take_all c.loop-place.place-index all c.loop-place-test.false)
    ∙ sym (map-map mark (place_in l) all)
