-- How many code units and bytes there are.
use Rattle.std.proofs.Common.{◌≡◌, ℕ, ◌<◌, ◌≤◌, ◌+◌, ⊎_elim, List, [], ◌∷◌, length, length-append, flat_map, arith, ap, ◌∙◌}
use Rattle.std.specs.Char.Escape.{encode_utf16}
use Rattle.std.specs.Str.{chars}
use Rattle.std.proofs.lemmas.Bool.{cases_lt}
use lib.Utf8.{encode, encodes}
use Rattle.json_text.specs.Units.{units_of}
use Rattle.json_text.proofs.Units.{encode_utf16-long, encode_utf16-short}
use Rattle.oxc_str.specs.Wtf8.{IsWtf8}
use Rattle.oxc_str.proofs.CodePoints.{IsCodePoint, AreCodePoints, Shape, of1, of2, of3, of4, shape}
use Rattle.oxc_str.proofs.Canonical.{points}

-- the units of the first, and those of the others
pub units_step : (all cs : List ℕ) (c : ℕ) → all ≡ c ∷ cs → length (flat_map encode_utf16 all) ≡ length (encode_utf16 c) + length (flat_map encode_utf16 cs)
units_step all cs c e = ap (λ (l : List ℕ). length (flat_map encode_utf16 l)) e ∙ length-append (encode_utf16 c) (flat_map encode_utf16 cs)

one_le : (c : ℕ) → IsCodePoint c → length (encode_utf16 c) ≤ length (encode c)
one_le c h = by (shape c h)
  where
    short : c < 65536 → 1 ≤ length (encode c) → length (encode_utf16 c) ≤ length (encode c)
    short k l = omega (arith, ap length (encode_utf16-short c k))

    by : Shape c → length (encode_utf16 c) ≤ length (encode c)
    by (of1 k e) = short (omega arith) (omega (arith, ap length e))
    by (of2 a b l k f s e) = short (omega (arith, f.1)) (omega (arith, ap length e))
    by (of3 a b d l k f g s e) = short (omega (arith, f.1, g.1)) (omega (arith, ap length e))
    by (of4 a b d x l k f g j s e) = ⊎_elim (λ (m : c < 65536). short m (omega (arith, ap length e)))
        (λ (m : 65536 ≤ c). omega (arith, ap length e, ap length (encode_utf16-long c m))) (cases_lt c 65536)

all_le : (cs : List ℕ) → AreCodePoints cs → length (flat_map encode_utf16 cs) ≤ length (encodes cs)
all_le [] a = omega arith
all_le (c ∷ cs) a =
    omega (arith, one_le c a.0, all_le cs a.1, length-append (encode_utf16 c) (flat_map encode_utf16 cs), length-append (encode c) (encodes cs))

-- no code unit has less than a byte
pub units_le : (bytes : List ℕ) → IsWtf8 bytes → length (units_of bytes) ≤ length bytes
units_le bytes w =
    let p = points bytes w in
    omega (arith, all_le (chars bytes) p.codes, ap length p.bytes_are)
