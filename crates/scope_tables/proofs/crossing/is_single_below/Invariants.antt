use Rattle.std.proofs.Common.{◌≡◌, Some}
use Rattle.place_list.proofs.OutwardWalks.{how_far}
use Rattle.place_list.specs.TableViews.{scope_at}
use Rattle.scope_tables.specs.Nearest.{any_before}
use Rattle.scope_tables.specs.DeclarationsAt.{single_at}
use Rattle.scope_tables.specs.Views.{IsScope}
use Rattle.scope_tables.proofs.crossing.is_single_below.Given as goal

abbrev pub invariant-loop-at : goal.invariant-loop-at
invariant-loop-at l = IsScope l.list l.at × (any_before (λ s. single_at l.declarations (Some s) l.name) l.home (scope_at l.list l.fn.scope) ≡ any_before (λ s. single_at l.declarations (Some s) l.name) l.home (scope_at l.list l.at))

abbrev pub decreases-loop-at : goal.decreases-loop-at
decreases-loop-at l = how_far l.at
