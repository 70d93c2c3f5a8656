-- Code units take at most three bytes each.
use Rattle.std.proofs.Common.{◌≡◌, ℕ, suc, ◌<◌, ◌≤◌, ◌+◌, ◌*◌, ◌⊎◌, inl, inr, List, [], ◌∷◌, ◌++◌, length, length-append, Bool, true, false, arith, refl, ap}
use Rattle.std.proofs.lemmas.Bool.{cases_lt}
use lib.Utf8.{encode, encodes}
use Rattle.json_text.specs.HasText.{AreCodeUnits}
use Rattle.json_text.specs.Strings.{joined}
use Rattle.oxc_str.specs.Wtf8.{code_points, wtf8}
use Rattle.oxc_str.proofs.Canonical.{wtf8-is}
use Rattle.oxc_str.proofs.CodePoints.{one, two, three, four}
use Rattle.oxc_str.proofs.CodeUnits.{code_points_alone, code_points_pair, is_pair}

short_point : (c : ℕ) → c < 65536 → length (encode c) ≤ 3
short_point c h = go (cases_lt c 128) (cases_lt c 2048)
  where
    go : (c < 128) ⊎ (128 ≤ c) → (c < 2048) ⊎ (2048 ≤ c) → length (encode c) ≤ 3
    go (inl l) _ = omega (arith, ap length (one c l))
    go (inr l) (inl k) = omega (arith, ap length (two c l k))
    go (inr l) (inr k) = omega (arith, ap length (three c k h))

long_point : (c : ℕ) → 65536 ≤ c → length (encode c) ≤ 4
long_point c h = omega (arith, ap length (four c h))

-- one unit takes at most three bytes, a pair of them four
by_pair : (u v : ℕ) (us : List ℕ) (b : Bool) → is_pair u v ≡ b → u < 65536 → length (encodes (code_points us)) ≤ 3 * length us
    → length (encodes (code_points (v ∷ us))) ≤ 3 * suc (length us) → length (encodes (code_points (u ∷ v ∷ us))) ≤ 3 * suc (suc (length us))
by_pair u v us true p h rest next =
    let same : length (encodes (code_points (u ∷ v ∷ us))) ≡ length (encode (joined u v) ++ encodes (code_points us)) = ap (λ (cs : List ℕ). length (encodes cs)) (code_points_pair u v us p) in
    let sum : length (encode (joined u v) ++ encodes (code_points us)) ≡ length (encode (joined u v)) + length (encodes (code_points us)) = length-append (encode (joined u v)) (encodes (code_points us)) in
    let most : length (encode (joined u v)) ≤ 4 = long_point (joined u v) (omega arith) in
    omega (arith, same, sum, most, rest)
by_pair u v us false p h rest next =
    let same : length (encodes (code_points (u ∷ v ∷ us))) ≡ length (encode u ++ encodes (code_points (v ∷ us))) = ap (λ (cs : List ℕ). length (encodes cs)) (code_points_alone u (v ∷ us) p) in
    let sum : length (encode u ++ encodes (code_points (v ∷ us))) ≡ length (encode u) + length (encodes (code_points (v ∷ us))) = length-append (encode u) (encodes (code_points (v ∷ us))) in
    let most : length (encode u) ≤ 3 = short_point u h in
    omega (arith, same, sum, most, next)

points_bytes : (us : List ℕ) → AreCodeUnits us → length (encodes (code_points us)) ≤ 3 * length us
unfolding code_points
points_bytes [] a = omega arith
points_bytes (u ∷ []) a = omega (arith, short_point u a.0, length-append (encode u) [])
points_bytes (u ∷ v ∷ us) a = by_pair u v us (is_pair u v) refl a.0 (points_bytes us a.1.1) (points_bytes (v ∷ us) a.1)

pub units_bytes : (us : List ℕ) → AreCodeUnits us → length (wtf8 us) ≤ 3 * length us
units_bytes us a = omega (arith, points_bytes us a, ap length (wtf8-is us))
