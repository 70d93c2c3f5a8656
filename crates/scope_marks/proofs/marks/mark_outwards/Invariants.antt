use Rattle.place_list.proofs.OutwardWalks.{how_far}
use Rattle.scope_marks.proofs.StepsOutwards.{Rest}
use Rattle.scope_marks.proofs.marks.mark_outwards.Given as goal

abbrev pub invariant-loop-next : goal.invariant-loop-next
invariant-loop-next g l = Rest l.list l.initial.bits l.fn.scope l.bits l.next

abbrev pub decreases-loop-next : goal.decreases-loop-next
decreases-loop-next g l = how_far l.next
