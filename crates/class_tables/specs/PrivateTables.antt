-- The table of a tree's private names, as data: the list of places that it is of, and what it holds of them.
use Rattle.std.specs.Prelude.{◌≡◌, ◌<◌, ℕ, Some, get_or, length}
use Rattle.name_rules.specs.PrivateNumbers.{closed_count}
use Rattle.place_list.specs.Bounds.{IsBounded}
use Rattle.place_list.specs.TableViews.{classes_at, list_view, places_in}
use Rattle.place_list.specs.declared.tables.PlaceList.{PlaceList}
use Rattle.class_tables.specs.Counts.{AreFlagsOf}
use Rattle.class_tables.specs.Tables.{AreTablesOf}
use Rattle.class_tables.specs.declared.private_table.PrivateTable.{PrivateTable}

-- the list of places that a table is of
abbrev pub list_in : PrivateTable → PlaceList
list_in t = t.list.now

-- a table that holds what is to be held of all places of its list
pub record IsWhole (t : PrivateTable) : Type 0 where
  pub bounded : IsBounded (list_view (list_in t))
  pub tables : AreTablesOf t.tables.items (places_in (list_in t))
  pub tables_length : length t.tables.items ≡ length (list_in t).class_bodies.items
  pub is_open : AreFlagsOf t.«open».items (places_in (list_in t))
  pub open_length : length t.«open».items ≡ length (list_in t).class_bodies.items
  pub counts : (k : ℕ) → k < length (list_in t).class_bodies.items → get_or t.counts.items k 0 ≡ closed_count (places_in (list_in t)) (classes_at (list_in t) (Some k))
  pub counts_length : length t.counts.items ≡ length (list_in t).class_bodies.items
