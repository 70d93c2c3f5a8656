use Rattle.std.proofs.Common.{◌≡◌, drop}
use Rattle.live_slots.specs.Slots.{busiest_home}
use Rattle.live_slots.proofs.busiest.busiest.Given as goal

abbrev pub invariant-loop-group : goal.invariant-loop-group
invariant-loop-group l = busiest_home l.leaders l.slots l.count ≡ busiest_home (drop l.group l.leaders) (drop l.group l.slots) l.count
