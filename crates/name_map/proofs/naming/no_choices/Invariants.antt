use Rattle.std.proofs.Common.{◌≡◌, None, replicate}
use Rattle.name_map.proofs.naming.no_choices.Given as goal

abbrev pub invariant-loop-i : goal.invariant-loop-i
invariant-loop-i l = l.choices.items ≡ replicate l._i None
