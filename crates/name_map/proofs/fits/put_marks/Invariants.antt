use Rattle.std.proofs.Common.{◌≡◌, drop}
use Rattle.name_map.specs.Undoing.{put_marks}
use Rattle.name_map.proofs.fits.put_marks.Given as goal

-- what is left to put, after what is put, is the whole
abbrev pub invariant-loop-number : goal.invariant-loop-number
invariant-loop-number l = put_marks l.numbers l.initial.marks.items ≡ put_marks (drop l.number-index l.numbers) l.marks.items
