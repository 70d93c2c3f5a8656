-- Escapes of code units.
use Rattle.std.proofs.Common.{◌≡◌, ℕ, ◌<◌, ◌/◌, ◌%◌, ◌∷◌, ◌++◌, arith}
use Rattle.json_text.specs.Strings.{unit_escape}
use Rattle.oxc_estree.specs.Values.{hex_pair}

pub unit_escape-pairs : (unit : ℕ) → unit < 65536 → unit_escape unit ≡ 92 ∷ 117 ∷ (hex_pair (unit / 256) ++ hex_pair (unit % 256))
unit_escape-pairs unit h =
    let a : unit / 4096 ≡ unit / 256 / 16 = omega arith in
    let b : unit / 256 % 16 ≡ unit / 256 % 16 = omega arith in
    let c : unit / 16 % 16 ≡ unit % 256 / 16 = omega arith in
    let d : unit % 16 ≡ unit % 256 % 16 = omega arith in
    cc
