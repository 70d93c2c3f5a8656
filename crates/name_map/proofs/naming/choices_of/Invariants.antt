use Rattle.std.proofs.Common.{◌≡◌, None, drop, replicate}
use Rattle.name_map.specs.Choices.{choose}
use Rattle.name_map.proofs.naming.choices_of.Given as goal

-- what is left to choose, after what is chosen, is the whole
abbrev pub invariant-loop-i : goal.invariant-loop-i
invariant-loop-i l = choose 0 l.names (replicate l.count None) ≡ choose l.i (drop l.i l.names) l.choices.items
