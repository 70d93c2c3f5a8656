use Rattle.std.proofs.Common.{◌≡◌, length}
use Rattle.std.specs.List.{list_any}
use Rattle.place_list.proofs.OutwardWalks.{how_far}
use Rattle.place_list.specs.Bounds.{IsBelow}
use Rattle.place_list.specs.TableViews.{heads_at}
use Rattle.scope_tables.specs.Reach.{is_open_body}
use Rattle.scope_tables.proofs.reach.is_any_open.Given as goal

abbrev pub invariant-loop-at : goal.invariant-loop-at
invariant-loop-at l =
    IsBelow (length l.list.heads.items) l.at
    × (list_any (is_open_body l.bodies l.heads l.node) (heads_at l.list l.fn.head) ≡ list_any (is_open_body l.bodies l.heads l.node) (heads_at l.list l.at))

abbrev pub decreases-loop-at : goal.decreases-loop-at
decreases-loop-at l = how_far l.at
