-- What the places so far declare.
use Rattle.std.specs.Prelude.{List}
use Rattle.place_list.specs.declared.tables.PlaceEntry.{PlaceEntry}
use Rattle.place_list.specs.declared.tables.PlaceList.{PlaceList}
use Rattle.scope_tables.specs.Firsts.{HoldsFirsts}
use Rattle.scope_tables.specs.declared.redeclared.Earlier.{Earlier}
use Rattle.scope_tables.specs.declared.sites.Declaring.TheVariants.{Plainly, Singly}

-- for each scope, and the name of each of all these places, it has the first ones of some of them
pub record HoldsEarlier (l : PlaceList) (all some : List PlaceEntry) (e : Earlier) : Type 0 where
  pub plain : HoldsFirsts Plainly l all some e.plain
  pub singles : HoldsFirsts Singly l all some e.singles
