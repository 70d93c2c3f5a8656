use Rattle.std.proofs.Common.{◌≡◌, Some}
use Rattle.place_list.proofs.OutwardWalks.{how_far}
use Rattle.place_list.specs.TableViews.{scope_at}
use Rattle.scope_tables.specs.Nearest.{nearest}
use Rattle.scope_tables.specs.DeclarationsAt.{binder_at}
use Rattle.scope_tables.specs.Views.{IsScope}
use Rattle.scope_tables.proofs.declarations.Declarations.nearest_binder.Given as goal

abbrev pub invariant-loop-at : goal.invariant-loop-at
invariant-loop-at l = IsScope l.list l.at × (nearest (λ s. binder_at l.self (Some s) l.name) (scope_at l.list l.fn.scope) ≡ nearest (λ s. binder_at l.self (Some s) l.name) (scope_at l.list l.at))

abbrev pub decreases-loop-at : goal.decreases-loop-at
decreases-loop-at l = how_far l.at
