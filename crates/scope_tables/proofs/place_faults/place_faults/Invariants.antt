use Rattle.std.proofs.Common.{◌≡◌, [], length, take}
use Rattle.scope_tables.specs.EarlierPlaces.{HoldsEarlier}
use Rattle.scope_tables.specs.FaultsOf.{each_after, faults_of}
use Rattle.scope_tables.specs.Views.{places_of}
use Rattle.scope_tables.proofs.place_faults.place_faults.Given as goal

abbrev pub invariant-loop-i : goal.invariant-loop-i
invariant-loop-i l = record {
  ends : l.i-end ≡ length l.places;
  found : l.found.items ≡ each_after (faults_of (places_of l.list l.places)) [] (places_of l.list (take l.i l.places));
  earlier : HoldsEarlier l.list l.places (take l.i l.places) l.earlier;
}
