use Rattle.std.proofs.Common.{◌≡◌, map, take}
use Rattle.std.specs.List.{All}
use Rattle.place_list.specs.TableViews.{places_in}
use Rattle.tree_symbols.specs.Known.{IsKnown}
use Rattle.tree_symbols.specs.declared.known.KnownPlace.{KnownPlace}
use Rattle.tree_symbols.proofs.known_places.known_places.Given as goal

abbrev pub invariant-loop-i : goal.invariant-loop-i
invariant-loop-i l = record {
  places : map (λ (k : KnownPlace). k.place) l.known.items ≡ take l.i l.tables.list.places.items;
  known : All (IsKnown l.tables.list (places_in l.tables.list)) l.known.items;
}
