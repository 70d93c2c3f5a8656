-- What is found out of a list of places.
use Rattle.std.specs.Prelude.{◌≡◌, List}
use Rattle.place_list.specs.declared.tables.PlaceEntry.{PlaceEntry}
use Rattle.place_list.specs.declared.tables.PlaceList.{PlaceList}
use Rattle.scope_rules.specs.Bindings.{bindings, same_name}
use Rattle.scope_tables.specs.DeclarationsAt.{AreDeclarations}
use Rattle.scope_tables.specs.FaultsOf.{AreFaults, place_faults}
use Rattle.scope_tables.specs.Views.{places_of}
use Rattle.scope_tables.specs.declared.resolved.Resolved.{Resolved}

pub record AreResolved (l : PlaceList) (es : List PlaceEntry) (r : Resolved) : Type 0 where
  pub declarations : AreDeclarations l es r.declarations
  pub bindings_are : r.bindings.items ≡ bindings same_name (places_of l es)
  pub place_faults_are : r.place_faults.items ≡ place_faults (places_of l es)
  pub faults : AreFaults (places_of l es) r.faults
