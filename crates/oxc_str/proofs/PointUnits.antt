-- The code units of code points that are handed out as numbers.
use Rattle.std.proofs.Common.{◌≡◌, ℕ, List, [], ◌∷◌, ◌++◌, flat_map, ap, ◌∙◌, refl, lt-ltb}
use Rattle.std.specs.Char.Escape.{encode_utf16}
use Rattle.std.specs.Str.{chars}
use Rattle.json_text.specs.Units.{units_of}
use Rattle.oxc_estree.specs.CodePoints.{points_units}
use Rattle.oxc_str.specs.Wtf8.{IsWtf8}
use Rattle.oxc_str.proofs.CodePoints.{AreCodePoints}
use Rattle.oxc_str.proofs.Canonical.{points}

points_are_units : (cs : List ℕ) → AreCodePoints cs → points_units cs ≡ flat_map encode_utf16 cs
points_are_units [] a = refl
points_are_units (c ∷ cs) a = rw (lt-ltb c 1114112 a.0) (ap (λ (l : List ℕ). encode_utf16 c ++ l) (points_are_units cs a.1))

-- the units of the code points are those of the string
pub units_of_points : (bytes cs : List ℕ) → IsWtf8 bytes → cs ≡ chars bytes → points_units cs ≡ units_of bytes
units_of_points bytes cs w e = ap points_units e ∙ points_are_units (chars bytes) (points bytes w).codes
