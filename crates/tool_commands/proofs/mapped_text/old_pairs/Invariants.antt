use Rattle.std.proofs.Common.{◌≡◌, map, take}
use Rattle.name_map.specs.Undoing.{old_name}
use Rattle.tool_commands.proofs.mapped_text.old_pairs.Given as goal

abbrev pub invariant-loop-i : goal.invariant-loop-i
invariant-loop-i l = map (λ p. old_name p.place p.name.now) l.pairs.items ≡ take l.i l.names
