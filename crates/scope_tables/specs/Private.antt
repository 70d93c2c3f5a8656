-- The first place that declares a private name in a class body.
use Rattle.std.specs.Prelude.{◌≡◌, ℕ, suc, List, find}
use Rattle.std.specs.BTreeMap.{BTreeMap}
use Rattle.std.specs.List.{Contains}
use Rattle.place_list.specs.declared.tables.PlaceEntry.{PlaceEntry}
use Rattle.place_list.specs.declared.tables.PlaceList.{PlaceList}
use Rattle.scope_rules.specs.Bindings.{node_of, same_name}
use Rattle.scope_rules.specs.PrivateNames.{declares_private_name}
use Rattle.scope_tables.specs.Keys.{at_key}
use Rattle.scope_tables.specs.Views.{places_of}
use Rattle.scope_tables.specs.declared.key.Key.{Key}

-- for each class body, and the name of each of all these places, the map has the first one of some of them
abbrev pub HoldsPrivate : PlaceList → List PlaceEntry → List PlaceEntry → BTreeMap Key ℕ → Type 0
HoldsPrivate l all some m = (c : ℕ) (q : PlaceEntry) → Contains all q → at_key m (suc c) q.name_number ≡ node_of (find (declares_private_name same_name q.name.now c) (places_of l some))
