-- Runs of bytes that need no escape, a word at a time.
use Rattle.std.proofs.Common.{◌≡◌, ℕ, ◌+◌, ◌-◌, ◌/◌, ◌<◌, ◌≤◌, ◌^◌, Bool, not, cond, eqb, List, length, drop, take, sym, ap, ◌∙◌, arith}
use Rattle.std.proofs.lemmas.Grind.{common_steps}
use Rattle.std.proofs.lemmas.Simd.{chunk-drop, length-chunk}
use Rattle.std.proofs.lemmas.List.{length-drop}
use Rattle.std.proofs.lemmas.List.Folds.{prefix_len-append}
use Rattle.std.proofs.lemmas.List.Sums.{prefix_len-le-length}
use Rattle.std.proofs.lemmas.Bool.{eq-eqb, ne_eqb}
use Rattle.std.proofs.lemmas.Nat.Bits.{bit_at-trailing_zeros}
use Rattle.std.specs.Int.{w64, trailing_zeros}
use Rattle.std.specs.List.{position_or_len}
use lib.Lanes.{chunk}
use lib.Count.{trailing_of_zero}

pub position-le : (p : ℕ → Bool) (bs : List ℕ) (i : ℕ) → i ≤ length bs → i + position_or_len p (drop i bs) ≤ length bs
position-le p bs i h = omega (arith, prefix_len-le-length (λ x. not (p x)) (drop i bs), length-drop i bs)

-- the first of some bytes that passes, from i on, if the eight bytes there are looked at first
split : (p : ℕ → Bool) (bs : List ℕ) (i : ℕ) → position_or_len p (drop i bs)
    ≡ cond (eqb (position_or_len p (chunk i 8 bs)) (length (chunk i 8 bs))) (length (chunk i 8 bs) + position_or_len p (drop (i + 8) bs)) (position_or_len p (chunk i 8 bs))
split p bs i = ap (position_or_len p) (chunk-drop i 8 bs) ∙ prefix_len-append (λ x. not (p x)) (chunk i 8 bs) (drop (i + 8) bs)

pub passes_in_word : (p : ℕ → Bool) (bs : List ℕ) (i k : ℕ) → i + 8 ≤ length bs → k ≡ position_or_len p (chunk i 8 bs) → k < 8 →
    position_or_len p (drop i bs) ≡ k
passes_in_word p bs i k room e small =
    let c = chunk i 8 bs in
    let n : length c ≡ 8 = length-chunk i 8 bs room in
    split p bs i ∙ ap (λ b. cond b (length c + position_or_len p (drop (i + 8) bs)) (position_or_len p c)) (ne_eqb _ _ (λ (f : position_or_len p c ≡ length c). omega (arith, e, n, small))) ∙ sym e

pub passes_after_word : (p : ℕ → Bool) (bs : List ℕ) (i : ℕ) → i + 8 ≤ length bs → 8 ≡ position_or_len p (chunk i 8 bs) →
    position_or_len p (drop i bs) ≡ 8 + position_or_len p (drop (i + 8) bs)
passes_after_word p bs i room e =
    let c = chunk i 8 bs in
    let n : length c ≡ 8 = length-chunk i 8 bs room in
    split p bs i ∙ ap (λ b. cond b (length c + position_or_len p (drop (i + 8) bs)) (position_or_len p c)) (eq-eqb _ _ (sym e ∙ sym n))
    ∙ ap (λ (x : ℕ). x + position_or_len p (drop (i + 8) bs)) n

-- the place of the lowest mark of a word, if it has one
pub lowest_in_word : (m : ℕ) → ¬ (m ≡ 0) → m < 2 ^ 64 → trailing_zeros w64 m / 8 < 8
lowest_in_word m some fits =
    let l : trailing_zeros w64 m < 64 = (bit_at-trailing_zeros w64 m (omega (arith, some)) fits).0 in
    omega (arith, l)

pub no_mark : (m : ℕ) → m ≡ 0 → trailing_zeros w64 m / 8 ≡ 8
no_mark m e = ap (λ x. trailing_zeros w64 x / 8) e ∙ ap (λ x. x / 8) (trailing_of_zero 64)

pub whole_rest : (bs : List ℕ) (i : ℕ) → take (length bs - i) (drop i bs) ≡ drop i bs
whole_rest bs i = grind (arith, common_steps)
