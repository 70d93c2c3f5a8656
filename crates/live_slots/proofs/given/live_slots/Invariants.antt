use Rattle.live_slots.proofs.OneMoreGroup.{Standing}
use Rattle.live_slots.specs.Extents.{extents}
use Rattle.live_slots.specs.Leaders.{rows_of}
use Rattle.place_list.specs.TableViews.{scopes_in}
use Rattle.live_slots.proofs.given.live_slots.Given as goal

abbrev pub invariant-loop-group : goal.invariant-loop-group
invariant-loop-group g l = Standing (scopes_in l.list) (extents (scopes_in l.list) (rows_of l.by_node l.leaders)) l.marks.items l.of_groups.items l.from l.last l.group
