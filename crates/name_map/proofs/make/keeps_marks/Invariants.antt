use Rattle.std.proofs.Common.{◌≡◌, drop}
use Rattle.name_map.specs.Kept.{keeps_marks}
use Rattle.name_map.proofs.make.keeps_marks.Given as goal

-- the Properties that are left decide
abbrev pub invariant-loop-i : goal.invariant-loop-i
invariant-loop-i l = keeps_marks l.before l.after ≡ keeps_marks (drop l.i l.before) (drop l.i l.after)
