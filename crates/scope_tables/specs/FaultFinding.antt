-- What faults are found by.
use Rattle.std.specs.Prelude.{List}
use Rattle.place_list.specs.declared.tables.PlaceEntry.{PlaceEntry}
use Rattle.place_list.specs.declared.tables.PlaceList.{PlaceList}
use Rattle.scope_tables.specs.Private.{HoldsPrivate}
use Rattle.scope_tables.specs.Reach.{HasBodies, HasHeads}
use Rattle.scope_tables.specs.declared.bound.BoundPlace.{BoundPlace}
use Rattle.scope_tables.specs.declared.place_faults.FaultTables.{FaultTables}

-- these are the tables of these places, with their bindings and without
pub record AreFaultTables (l : PlaceList) (bs : List BoundPlace) (es : List PlaceEntry) (t : FaultTables) : Type 0 where
  pub private_names : HoldsPrivate l es es t.private
  pub bodies : HasBodies l bs t.bodies
  pub heads : HasHeads l bs t.heads
