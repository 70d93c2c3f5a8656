use Rattle.std.proofs.Common.{◌≡◌, length, suc}
use Rattle.place_list.proofs.OutwardWalks.{how_far}
use Rattle.place_list.specs.Bounds.{IsBelow}
use Rattle.place_list.specs.TableViews.{classes_at}
use Rattle.scope_tables.specs.Keys.{at_key}
use Rattle.scope_tables.specs.Nearest.{nearest}
use Rattle.scope_tables.proofs.private_names.nearest_class.Given as goal

abbrev pub invariant-loop-at : goal.invariant-loop-at
invariant-loop-at l =
    IsBelow (length l.list.class_bodies.items) l.at
    × (nearest (λ c. at_key l.declarations (suc c) l.name) (classes_at l.list l.fn.class_body) ≡ nearest (λ c. at_key l.declarations (suc c) l.name) (classes_at l.list l.at))

abbrev pub decreases-loop-at : goal.decreases-loop-at
decreases-loop-at l = how_far l.at
