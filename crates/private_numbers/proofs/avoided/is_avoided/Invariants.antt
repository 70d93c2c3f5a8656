use Rattle.std.proofs.Common.{◌≡◌, length}
use Rattle.class_tables.specs.PrivateTables.{list_in}
use Rattle.name_rules.specs.PrivateNumbers.{open_names}
use Rattle.place_list.proofs.OutwardWalks.{how_far}
use Rattle.place_list.specs.Bounds.{IsBelow}
use Rattle.place_list.specs.TableViews.{classes_at, places_in}
use Rattle.scope_rules.specs.PrivateNames.{is_among}
use Rattle.private_numbers.proofs.avoided.is_avoided.Given as goal

-- what is left outwards decides
abbrev pub invariant-loop-at : goal.invariant-loop-at
invariant-loop-at l = record {
  below : IsBelow (length (list_in l.table).class_bodies.items) l.at;
  same : is_among (open_names (places_in (list_in l.table)) (classes_at (list_in l.table) l.fn.class_body)) l.name ≡ is_among (open_names (places_in (list_in l.table)) (classes_at (list_in l.table) l.at)) l.name;
}

abbrev pub decreases-loop-at : goal.decreases-loop-at
decreases-loop-at l = how_far l.at
