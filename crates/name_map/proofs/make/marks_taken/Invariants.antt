use Rattle.std.proofs.Common.{◌≡◌, ◌++◌, drop, map}
use Rattle.std.specs.List.{AllByRecursion}
use Rattle.name_map.specs.Undoing.{IsSized, taken_off}
use Rattle.name_map.proofs.make.marks_taken.Given as goal

-- the numbers that are listed stand before those of the Properties that are left
abbrev pub invariant-loop-i : goal.invariant-loop-i
invariant-loop-i l =
    (taken_off 0 l.before (map (λ p. p.marked) l.after)
    ≡ l.marks.items ++ taken_off l.i (drop l.i l.before) (drop l.i (map (λ p. p.marked) l.after)))
    × AllByRecursion IsSized l.marks.items
