use Rattle.std.proofs.Common.{◌≡◌, drop, map}
use Rattle.name_map.specs.Undoing.{put_names}
use Rattle.name_map.proofs.fits.put_names.Given as goal

-- what is left to put, after what is put, is the whole
abbrev pub invariant-loop-i : goal.invariant-loop-i
invariant-loop-i l = put_names l.old (map (λ x. x.now) l.initial.names.items) ≡ put_names (drop l.i l.old) (map (λ x. x.now) l.names.items)
