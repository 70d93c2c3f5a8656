use Rattle.std.proofs.Common.{◌≡◌, ◌++◌, drop, map}
use Rattle.std.specs.List.{AllByRecursion}
use Rattle.name_map.specs.Undoing.{IsOldName, differing}
use Rattle.name_map.proofs.make.differing_names.Given as goal

-- the names that are listed stand before those of the places that are left
abbrev pub invariant-loop-i : goal.invariant-loop-i
invariant-loop-i l =
    (differing 0 (map (λ x. x.now) l.before) (map (λ x. x.now) l.after)
    ≡ l.names ++ differing l.i (drop l.i (map (λ x. x.now) l.before)) (drop l.i (map (λ x. x.now) l.after)))
    × AllByRecursion IsOldName l.names
