use Rattle.std.proofs.Common.{◌≡◌, ◌++◌}
use Rattle.name_rules.specs.ShortNames.{more_characters, short}
use Rattle.free_names.proofs.short_names.base54.Given as goal

abbrev pub invariant-loop-left : goal.invariant-loop-left
invariant-loop-left l = l.name ++ more_characters l.left l.left ≡ short l.n

abbrev pub decreases-loop-left : goal.decreases-loop-left
decreases-loop-left l = l.left
