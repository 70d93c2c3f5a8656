-- The tables of a whole tree.
use Rattle.place_list.specs.Bounds.{IsBounded}
use Rattle.place_list.specs.Names.{AreNumbered}
use Rattle.place_list.specs.TableViews.{list_view}
use Rattle.scope_tables.specs.Resolving.{AreResolved}
use Rattle.scope_tables.specs.Views.{nodes_of}
use Rattle.scope_tables.specs.declared.tables.ScopeTables.{ScopeTables}
use Rattle.tree_places.specs.Laws.{RiseFrom}

-- what is found is found out of the list, along which nodes rise
pub record AreTables (t : ScopeTables) : Type 0 where
  pub bounded : IsBounded (list_view t.list)
  pub numbered : AreNumbered t.list.places.items
  pub found : AreResolved t.list t.list.places.items t.resolved
  pub rising : RiseFrom 0 (nodes_of t.list.places.items)
