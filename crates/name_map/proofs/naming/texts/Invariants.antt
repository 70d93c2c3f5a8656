use Rattle.std.proofs.Common.{◌≡◌, map, string_bytes, take}
use Rattle.name_map.proofs.naming.texts.Given as goal

abbrev pub invariant-loop-i : goal.invariant-loop-i
invariant-loop-i l = map string_bytes l.texts.items ≡ map (λ o. o.name) (take l.i l.names)
