use Rattle.std.proofs.Common.{◌≡◌, drop, map}
use Rattle.name_map.specs.Kept.{keeps_plain}
use Rattle.name_map.proofs.make.keeps_plain.Given as goal

-- the places that are left decide
abbrev pub invariant-loop-i : goal.invariant-loop-i
invariant-loop-i l =
    keeps_plain l.plain (map (λ x. x.now) l.before) (map (λ x. x.now) l.after)
    ≡ keeps_plain (drop l.i l.plain) (drop l.i (map (λ x. x.now) l.before)) (drop l.i (map (λ x. x.now) l.after))
