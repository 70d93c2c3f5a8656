use Rattle.std.proofs.Common.{◌≡◌, drop}
use Rattle.name_map.specs.Fits.{marks_fit}
use Rattle.name_map.proofs.fits.marks_fit.Given as goal

-- the numbers that are left decide
abbrev pub invariant-loop-number : goal.invariant-loop-number
invariant-loop-number l = marks_fit l.marks 0 l.numbers ≡ marks_fit l.marks l.least (drop l.number-index l.numbers)
