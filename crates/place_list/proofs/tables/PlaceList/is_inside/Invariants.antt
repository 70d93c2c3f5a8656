use Rattle.std.proofs.Common.{◌≡◌, length}
use Rattle.place_list.proofs.OutwardWalks.{how_far}
use Rattle.place_list.specs.Bounds.{IsBelow}
use Rattle.place_list.specs.TableViews.{scope_at}
use Rattle.tree_places.specs.Scopes.{is_inside}
use Rattle.place_list.proofs.tables.PlaceList.is_inside.Given as goal

-- what is left outwards decides
abbrev pub invariant-loop-at : goal.invariant-loop-at
invariant-loop-at l =
    IsBelow (length l.self.scopes.items) l.at
    × (is_inside (scope_at l.self l.fn.inner) (scope_at l.self l.outer) ≡ is_inside (scope_at l.self l.at) (scope_at l.self l.outer))

abbrev pub decreases-loop-at : goal.decreases-loop-at
decreases-loop-at l = how_far l.at
