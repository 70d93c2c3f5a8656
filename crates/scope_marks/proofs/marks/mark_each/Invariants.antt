use Rattle.std.proofs.Common.{◌≡◌, length, map, take}
use Rattle.place_list.specs.TableViews.{scope_at}
use Rattle.scope_marks.specs.Marks.{mark_each}
use Rattle.scope_marks.proofs.marks.mark_each.Given as goal

abbrev pub invariant-loop-scope : goal.invariant-loop-scope
invariant-loop-scope g l = record { room : length l.bits ≡ length l.list.scopes.items; so_far : l.bits ≡ mark_each l.initial.bits (map (scope_at l.list) (take l.scope-index l.scopes)) }
