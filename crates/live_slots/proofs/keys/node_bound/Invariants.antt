use Rattle.std.proofs.Common.{take}
use Rattle.std.specs.List.{AllByRecursion}
use Rattle.place_list.specs.Bounds.{IsBelow}
use Rattle.live_slots.proofs.keys.node_bound.Given as goal

abbrev pub invariant-loop-group : goal.invariant-loop-group
invariant-loop-group l = AllByRecursion (IsBelow l.bound) (take l.group-index l.groups)
