use Rattle.std.proofs.Common.{◌≡◌, ◌≤◌, ◌^◌, drop}
use Rattle.name_map.specs.Fits.{names_fit}
use Rattle.name_map.proofs.fits.names_fit.Given as goal

-- the names that are left decide
abbrev pub invariant-loop-i : goal.invariant-loop-i
invariant-loop-i l = names_fit l.plain 0 l.names ≡ names_fit l.plain l.least (drop l.i l.names)
