-- The first and the last code point of bytes of generalized UTF-8.
use Rattle.std.proofs.Common.{◌≡◌, ℕ, ◌<◌, ◌≤◌, ◌+◌, ◌*◌, ◌%◌, List, [], ◌∷◌, ◌++◌, get_or, length, drop, true, nat_lt, arith, sym, ap, ◌∙◌, refl, subst, lt-ltb, ltb-true}
use Rattle.std.specs.Str.{chars}
use Rattle.std.proofs.lemmas.Bool.{and_parts}
use lib.Utf8.{encode, encodes}
use Rattle.oxc_str.specs.JSChars.{are_code_points, IsGeneralizedUtf8, BeginsWith}
use Rattle.oxc_str.proofs.CodePoints.{AreCodePoints, Shape, of1, of2, of3, of4, shape, chars_first, chars-of_encodes}
use Rattle.oxc_str.specs.Wtf8.{IsWtf8}
use Rattle.oxc_str.proofs.Canonical.{points}

pub are_code_points-AreCodePoints : (cs : List ℕ) → AreCodePoints cs → are_code_points cs ≡ true
are_code_points-AreCodePoints [] a = refl
are_code_points-AreCodePoints (c ∷ cs) a = rw (lt-ltb c 1114112 a.0) (are_code_points-AreCodePoints cs a.1)

pub AreCodePoints-are_code_points : (cs : List ℕ) → are_code_points cs ≡ true → AreCodePoints cs
AreCodePoints-are_code_points [] e = tt
AreCodePoints-are_code_points (c ∷ cs) e = let b = and_parts (nat_lt c 1114112) (are_code_points cs) e in (ltb-true c 1114112 b.0, AreCodePoints-are_code_points cs b.1)

pub IsGeneralizedUtf8-encodes : (cs : List ℕ) → AreCodePoints cs → IsGeneralizedUtf8 (encodes cs)
IsGeneralizedUtf8-encodes cs a =
    let e = chars-of_encodes cs a in
    record { codes = ap are_code_points e ∙ are_code_points-AreCodePoints cs a; whole = ap encodes e }

-- ---- from the front

-- What the first byte tells.
pub record Opening (bs : List ℕ) : Type 0 where
  pub one : get_or bs 0 0 < 128 → BeginsWith bs (get_or bs 0 0) 1
  pub two_long : 128 ≤ get_or bs 0 0 → 2 ≤ length bs
  pub two : 128 ≤ get_or bs 0 0 → get_or bs 0 0 < 224 → BeginsWith bs (get_or bs 0 0 % 32 * 64 + get_or bs 1 0 % 64) 2
  pub three_long : 224 ≤ get_or bs 0 0 → 3 ≤ length bs
  pub three : 224 ≤ get_or bs 0 0 → get_or bs 0 0 < 240 → BeginsWith bs (get_or bs 0 0 % 16 * 4096 + get_or bs 1 0 % 64 * 64 + get_or bs 2 0 % 64) 3
  pub four_long : 240 ≤ get_or bs 0 0 → 4 ≤ length bs
  pub four : 240 ≤ get_or bs 0 0 → BeginsWith bs (get_or bs 0 0 % 8 * 262144 + get_or bs 1 0 % 64 * 4096 + get_or bs 2 0 % 64 * 64 + get_or bs 3 0 % 64) 4

-- the bytes p of c, before those of cs
begins : (c d n : ℕ) (p cs : List ℕ) → AreCodePoints (c ∷ cs) → encode c ≡ p → c ≡ d → drop n (p ++ encodes cs) ≡ encodes cs → n ≤ length (p ++ encodes cs) → BeginsWith (p ++ encodes cs) d n
begins c d n p cs a e s r w =
    record {
      first = ap (λ (q : List ℕ). chars (q ++ encodes cs)) (sym e) ∙ chars_first c (encodes cs) a.0 ∙ ap (λ (x : ℕ). x ∷ chars (encodes cs)) s ∙ ap (λ (l : List ℕ). d ∷ chars l) (sym r);
      rest = subst IsGeneralizedUtf8 (sym r) (IsGeneralizedUtf8-encodes cs a.1);
      code = omega (arith, a.0);
      within = w;
    }

opens : (c : ℕ) (cs : List ℕ) → AreCodePoints (c ∷ cs) → Shape c → Opening (encode c ++ encodes cs)
opens c cs a (of1 h e) = subst Opening (ap (λ (p : List ℕ). p ++ encodes cs) (sym e)) (record {
  one = λ k. begins c c 1 (c ∷ []) cs a e refl refl (omega arith);
  two_long = λ k. absurd (omega arith);
  two = λ k j. absurd (omega arith);
  three_long = λ k. absurd (omega arith);
  three = λ k j. absurd (omega arith);
  four_long = λ k. absurd (omega arith);
  four = λ k. absurd (omega arith);
})
opens c cs a (of2 x y l h f s e) =
    let is : c ≡ x % 32 * 64 + y % 64 = omega (arith, f.0, f.1) in
    subst Opening (ap (λ (p : List ℕ). p ++ encodes cs) (sym e)) (record {
      one = λ k. absurd (omega arith);
      two_long = λ k. omega arith;
      two = λ k j. begins c (x % 32 * 64 + y % 64) 2 (x ∷ y ∷ []) cs a e is refl (omega arith);
      three_long = λ k. absurd (omega arith);
      three = λ k j. absurd (omega arith);
      four_long = λ k. absurd (omega arith);
      four = λ k. absurd (omega arith);
    })
opens c cs a (of3 x y z l h f g s e) =
    let is : c ≡ x % 16 * 4096 + y % 64 * 64 + z % 64 = omega (arith, f.0, f.1, g.0, g.1) in
    subst Opening (ap (λ (p : List ℕ). p ++ encodes cs) (sym e)) (record {
      one = λ k. absurd (omega arith);
      two_long = λ k. omega arith;
      two = λ k j. absurd (omega arith);
      three_long = λ k. omega arith;
      three = λ k j. begins c (x % 16 * 4096 + y % 64 * 64 + z % 64) 3 (x ∷ y ∷ z ∷ []) cs a e is refl (omega arith);
      four_long = λ k. absurd (omega arith);
      four = λ k. absurd (omega arith);
    })
opens c cs a (of4 x y z w l h f g k' s e) =
    let is : c ≡ x % 8 * 262144 + y % 64 * 4096 + z % 64 * 64 + w % 64 = omega (arith, f.0, f.1, g.0, g.1, k'.0, k'.1) in
    subst Opening (ap (λ (p : List ℕ). p ++ encodes cs) (sym e)) (record {
      one = λ k. absurd (omega arith);
      two_long = λ k. omega arith;
      two = λ k j. absurd (omega arith);
      three_long = λ k. omega arith;
      three = λ k j. absurd (omega arith);
      four_long = λ k. omega arith;
      four = λ k. begins c (x % 8 * 262144 + y % 64 * 4096 + z % 64 * 64 + w % 64) 4 (x ∷ y ∷ z ∷ w ∷ []) cs a e is refl (omega arith);
    })

opening-by : (bs cs : List ℕ) → AreCodePoints cs → encodes cs ≡ bs → 0 < length bs → Opening bs
opening-by bs [] a e l = absurd (omega (arith, ap length e))
opening-by bs (c ∷ cs) a e l = subst Opening e (opens c cs a (shape c a.0))

pub opening : (bs : List ℕ) → IsGeneralizedUtf8 bs → 0 < length bs → Opening bs
opening bs g l = opening-by bs (chars bs) (AreCodePoints-are_code_points (chars bs) g.codes) g.whole l

pub IsWtf8-general : (bs : List ℕ) → IsWtf8 bs → IsGeneralizedUtf8 bs
IsWtf8-general bs w = let p = points bs w in record { codes = are_code_points-AreCodePoints (chars bs) p.codes; whole = p.bytes_are }
