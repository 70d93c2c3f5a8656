use Rattle.std.proofs.Common.{◌≡◌, map, take}
use Rattle.place_list.specs.TableViews.{place_in}
use Rattle.scope_rules.specs.Bindings.{binding, same_name}
use Rattle.scope_tables.specs.Reach.{AllBoundStand}
use Rattle.scope_tables.specs.Views.{bounds_of, places_of}
use Rattle.scope_tables.proofs.resolve.bound_places.Given as goal

abbrev pub invariant-loop-place : goal.invariant-loop-place
invariant-loop-place l = record {
  bound : bounds_of l.list l.bound.items ≡ map (λ q. record { place = place_in l.list q; binding = binding same_name (places_of l.list l.places) (place_in l.list q) }) (take l.place-index l.places);
  stand : AllBoundStand l.list l.bound.items;
}
