-- The lowest mark of a word of eight bytes stands at the first byte that needs an escape: up to there
-- no subtraction borrows from the byte above.
use Rattle.std.proofs.Common.{◌≡◌, ℕ, suc, ◌+◌, ◌-◌, ◌*◌, ◌/◌, ◌%◌, ◌^◌, ◌<◌, ◌≤◌, List, [], ◌∷◌, Bool, true, false, cond, nat_le, nat_lt, nat_eq, ◌&&◌, not, length, get_or, ap, ◌∙◌, refl, arith}
use Rattle.std.proofs.lemmas.Bool.{agree_below_at, and_parts}
use Rattle.std.proofs.lemmas.Bool.Decides.{nat_tests}
use Rattle.std.proofs.lemmas.Nat.{and_block, or_block, xor_block, or_lt, xor_lt, and_le_l}
use Rattle.std.specs.Int.{w64, from_le_bytes, trailing_zeros}
use Rattle.std.specs.Int.RustNames.{bit_and, bit_or, bit_xor}
use Rattle.std.specs.List.{position_or_len}
use Rattle.oxc_estree.specs.Escapes.{needs_escape, escapes_mask}
use lib.Count.{count_trailing_zeros, under}

-- numbers of eight bits
abbrev pub Bytes : List ℕ → Type 0
Bytes [] = Unit {0}
Bytes (b ∷ bs) = (b < 256) × Bytes bs

-- the number of bytes, the first of them the lowest; the number that has c at each of them; and the
-- least number that is too large for so many
abbrev pub number : List ℕ → ℕ
number [] = 0
number (b ∷ bs) = number bs * 256 + b

abbrev pub each : ℕ → List ℕ → ℕ
each c [] = 0
each c (b ∷ bs) = each c bs * 256 + c

abbrev pub size : List ℕ → ℕ
size [] = 1
size (b ∷ bs) = size bs * 256

number-lt-size : (bs : List ℕ) → Bytes bs → number bs < size bs
number-lt-size [] h = omega arith
number-lt-size (b ∷ bs) h = omega (arith, number-lt-size bs h.1, h.0)

each-lt-size : (c : ℕ) (bs : List ℕ) → c < 256 → each c bs < size bs
each-lt-size c [] h = omega arith
each-lt-size c (b ∷ bs) h = omega (arith, each-lt-size c bs h)

-- a less b, and less one more where it borrows, both wrapping at t
abbrev pub less : Bool → ℕ → ℕ → ℕ → ℕ
less true t a b = cond (nat_le b a) (a - b) (a + t - b)
less false t a b = cond (nat_lt b a) (a - b - 1) (a + t - b - 1)

-- a byte less another, and whether it needs no borrow
abbrev byte_less : ℕ → ℕ → ℕ
byte_less r c = cond (nat_le c r) (r - c) (r + 256 - c)

less_block : (t a b r c : ℕ) → b < t → r < 256 → c < 256 →
    less true (t * 256) (a * 256 + r) (b * 256 + c) ≡ less (nat_le c r) t a b * 256 + byte_less r c
less_block t a b r c hb hr hc = by_test (nat_le c r) refl
  where
    by_test : (u : Bool) → nat_le c r ≡ u → less true (t * 256) (a * 256 + r) (b * 256 + c) ≡ less (nat_le c r) t a b * 256 + byte_less r c
    by_test true e = let k : c ≤ r = grind (arith, nat_tests) in rw e (grind (arith, nat_tests))
    by_test false e = let k : r < c = grind (arith, nat_tests) in rw e (grind (arith, nat_tests))

byte_less-lt : (r c : ℕ) → r < 256 → c < 256 → byte_less r c < 256
byte_less-lt r c hr hc = grind (arith, nat_tests)

-- the marks of bytes, where the three subtractions borrow, or do not, from below
abbrev marks_after : Bool → Bool → Bool → List ℕ → ℕ
marks_after u v w bs =
    bit_and (bit_and (bit_or (bit_or (less u (size bs) (number bs) (each 32 bs)) (less v (size bs) (bit_xor (number bs) (each 34 bs)) (each 1 bs)))
    (less w (size bs) (bit_xor (number bs) (each 92 bs)) (each 1 bs))) (size bs - 1 - number bs)) (each 128 bs)

abbrev pub marks : List ℕ → ℕ
marks bs = marks_after true true true bs

-- the mark of one byte
abbrev byte_mark : ℕ → ℕ
byte_mark b = bit_and (bit_and (bit_or (bit_or (byte_less b 32) (byte_less (bit_xor b 34) 1)) (byte_less (bit_xor b 92) 1)) (255 - b)) 128

marks_block : (b : ℕ) (bs : List ℕ) → b < 256 → Bytes bs →
    marks (b ∷ bs) ≡ marks_after (nat_le 32 b) (nat_le 1 (bit_xor b 34)) (nat_le 1 (bit_xor b 92)) bs * 256 + byte_mark b
marks_block b bs hb hs =
    let t = size bs in
    let n = number bs in
    let q = bit_xor b 34 in
    let s = bit_xor b 92 in
    let hq : q < 256 = xor_lt 8 b 34 hb (omega arith) in
    let hw : s < 256 = xor_lt 8 b 92 hb (omega arith) in
    let one : each 1 bs < t = each-lt-size 1 bs (omega arith) in
    let below : n < t = number-lt-size bs hs in
    let a1 : less true (t * 256) (n * 256 + b) (each 32 bs * 256 + 32) ≡ less (nat_le 32 b) t n (each 32 bs) * 256 + byte_less b 32 =
    less_block t n (each 32 bs) b 32 (each-lt-size 32 bs (omega arith)) hb (omega arith) in
    let a2 : less true (t * 256) (bit_xor (n * 256 + b) (each 34 bs * 256 + 34)) (each 1 bs * 256 + 1)
    ≡ less (nat_le 1 q) t (bit_xor n (each 34 bs)) (each 1 bs) * 256 + byte_less q 1 =
    ap (λ x. less true (t * 256) x (each 1 bs * 256 + 1)) (xor_block 8 n (each 34 bs) b 34 hb (omega arith))
    ∙ less_block t (bit_xor n (each 34 bs)) (each 1 bs) q 1 one hq (omega arith) in
    let a3 : less true (t * 256) (bit_xor (n * 256 + b) (each 92 bs * 256 + 92)) (each 1 bs * 256 + 1)
    ≡ less (nat_le 1 s) t (bit_xor n (each 92 bs)) (each 1 bs) * 256 + byte_less s 1 =
    ap (λ x. less true (t * 256) x (each 1 bs * 256 + 1)) (xor_block 8 n (each 92 bs) b 92 hb (omega arith))
    ∙ less_block t (bit_xor n (each 92 bs)) (each 1 bs) s 1 one hw (omega arith) in
    let a4 : t * 256 - 1 - (n * 256 + b) ≡ (t - 1 - n) * 256 + (255 - b) = omega arith in
    let l1 = byte_less-lt b 32 hb (omega arith) in
    let l2 = byte_less-lt q 1 hq (omega arith) in
    let l3 = byte_less-lt s 1 hw (omega arith) in
    let l12 = or_lt 8 _ _ l1 l2 in
    let l123 = or_lt 8 _ _ l12 l3 in
    let l4 : 255 - b < 256 = omega arith in
    let l1234 : bit_and (bit_or (bit_or (byte_less b 32) (byte_less q 1)) (byte_less s 1)) (255 - b) < 256 =
    omega (arith, l123, and_le_l (bit_or (bit_or (byte_less b 32) (byte_less q 1)) (byte_less s 1)) (255 - b)) in
    (λ i. bit_and (bit_and (bit_or (bit_or (a1 i) (a2 i)) (a3 i)) (a4 i)) (each 128 bs * 256 + 128))
    ∙ ap (λ x. bit_and (bit_and (bit_or x (less (nat_le 1 s) t (bit_xor n (each 92 bs)) (each 1 bs) * 256 + byte_less s 1)) ((t - 1 - n) * 256 + (255 - b))) (each 128 bs * 256 + 128))
    (or_block 8 _ _ _ _ l1 l2)
    ∙ ap (λ x. bit_and (bit_and x ((t - 1 - n) * 256 + (255 - b))) (each 128 bs * 256 + 128)) (or_block 8 _ _ _ _ l12 l3)
    ∙ ap (λ x. bit_and x (each 128 bs * 256 + 128)) (and_block 8 _ _ _ _ l123 l4)
    ∙ and_block 8 _ _ _ _ l1234 (omega arith)

-- ---- what holds of each byte

abbrev is_told : ℕ → Bool
is_told b = cond (needs_escape b) (nat_eq (byte_mark b) 128)
    (nat_eq (byte_mark b) 0 && (nat_le 32 b && (nat_le 1 (bit_xor b 34) && nat_le 1 (bit_xor b 92))))

told : (b : ℕ) → b < 256 → is_told b ≡ true
told b h = agree_below_at is_told (λ _. true) 256 b refl h

marked : (b : ℕ) (bs : List ℕ) → b < 256 → Bytes bs → needs_escape b ≡ true → (m : ℕ) × (marks (b ∷ bs) ≡ m * 256 + 128)
marked b bs hb hs e =
    let k : nat_eq (byte_mark b) 128 ≡ true = rw e at (told b hb) in
    let is : byte_mark b ≡ 128 = grind (arith, nat_tests) in
    (_, marks_block b bs hb hs ∙ ap (λ x. marks_after (nat_le 32 b) (nat_le 1 (bit_xor b 34)) (nat_le 1 (bit_xor b 92)) bs * 256 + x) is)

unmarked : (b : ℕ) (bs : List ℕ) → b < 256 → Bytes bs → needs_escape b ≡ false → marks (b ∷ bs) ≡ marks bs * 256
unmarked b bs hb hs e =
    let k : (nat_eq (byte_mark b) 0 && (nat_le 32 b && (nat_le 1 (bit_xor b 34) && nat_le 1 (bit_xor b 92)))) ≡ true = rw e at (told b hb) in
    let p = and_parts (nat_eq (byte_mark b) 0) (nat_le 32 b && (nat_le 1 (bit_xor b 34) && nat_le 1 (bit_xor b 92))) k in
    let q = and_parts (nat_le 32 b) (nat_le 1 (bit_xor b 34) && nat_le 1 (bit_xor b 92)) p.1 in
    let r = and_parts (nat_le 1 (bit_xor b 34)) (nat_le 1 (bit_xor b 92)) q.1 in
    let is : byte_mark b ≡ 0 = grind (arith, nat_tests) in
    let at : marks (b ∷ bs) ≡ marks bs * 256 + byte_mark b = marks_block b bs hb hs ∙ (λ i. marks_after (q.0 i) (r.0 i) (r.1 i) bs * 256 + byte_mark b) in
    omega (arith, at, is)

-- ---- the lowest mark

zero_below : (k n m : ℕ) → n ≡ m * 2 → count_trailing_zeros (suc k) n ≡ suc (count_trailing_zeros k m)
unfolding count_trailing_zeros
zero_below k n m e =
    let r : n % 2 ≡ 0 = omega (arith, e) in
    let h : n / 2 ≡ m = omega (arith, e) in
    (λ i. under (r i) (count_trailing_zeros k (h i)))

one_below : (k n m : ℕ) → n ≡ m * 2 + 1 → count_trailing_zeros (suc k) n ≡ 0
unfolding count_trailing_zeros
one_below k n m e = let r : n % 2 ≡ 1 = omega (arith, e) in ap (λ d. under d (count_trailing_zeros k (n / 2))) r

abbrev pub eight_more : ℕ → ℕ
eight_more k = suc (suc (suc (suc (suc (suc (suc (suc k)))))))

no_mark_below : (k n m : ℕ) → n ≡ m * 256 → count_trailing_zeros (eight_more k) n ≡ eight_more (count_trailing_zeros k m)
no_mark_below k n m e =
    zero_below _ n (m * 128) (omega (arith, e))
    ∙ ap suc (zero_below _ (m * 128) (m * 64) (omega arith)
    ∙ ap suc (zero_below _ (m * 64) (m * 32) (omega arith)
    ∙ ap suc (zero_below _ (m * 32) (m * 16) (omega arith)
    ∙ ap suc (zero_below _ (m * 16) (m * 8) (omega arith)
    ∙ ap suc (zero_below _ (m * 8) (m * 4) (omega arith)
    ∙ ap suc (zero_below _ (m * 4) (m * 2) (omega arith)
    ∙ ap suc (zero_below _ (m * 2) m refl)))))))

mark_at : (k n m : ℕ) → n ≡ m * 256 + 128 → count_trailing_zeros (eight_more k) n ≡ 7
mark_at k n m e =
    zero_below _ n (m * 128 + 64) (omega (arith, e))
    ∙ ap suc (zero_below _ (m * 128 + 64) (m * 64 + 32) (omega arith)
    ∙ ap suc (zero_below _ (m * 64 + 32) (m * 32 + 16) (omega arith)
    ∙ ap suc (zero_below _ (m * 32 + 16) (m * 16 + 8) (omega arith)
    ∙ ap suc (zero_below _ (m * 16 + 8) (m * 8 + 4) (omega arith)
    ∙ ap suc (zero_below _ (m * 8 + 4) (m * 4 + 2) (omega arith)
    ∙ ap suc (zero_below _ (m * 4 + 2) (m * 2 + 1) (omega arith)
    ∙ ap suc (one_below _ (m * 2 + 1) m refl)))))))

abbrev bit_count : List ℕ → ℕ
bit_count [] = 0
bit_count (b ∷ bs) = eight_more (bit_count bs)

lowest_mark : (bs : List ℕ) → Bytes bs → count_trailing_zeros (bit_count bs) (marks bs) / 8 ≡ position_or_len needs_escape bs
unfolding count_trailing_zeros
lowest_mark [] h = refl
lowest_mark (b ∷ bs) h = by_test (needs_escape b) refl (lowest_mark bs h.1)
  where
    by_test : (u : Bool) → needs_escape b ≡ u → count_trailing_zeros (bit_count bs) (marks bs) / 8 ≡ position_or_len needs_escape bs →
        count_trailing_zeros (eight_more (bit_count bs)) (marks (b ∷ bs)) / 8 ≡ cond (not (needs_escape b)) (1 + position_or_len needs_escape bs) 0
    by_test true e rest =
        let m = marked b bs h.0 h.1 e in
        rw e (ap (λ x. x / 8) (mark_at (bit_count bs) (marks (b ∷ bs)) m.0 m.1))
    by_test false e rest =
        let t = count_trailing_zeros (bit_count bs) (marks bs) in
        let next : eight_more t / 8 ≡ 1 + t / 8 = omega arith in
        rw e (ap (λ x. x / 8) (no_mark_below (bit_count bs) (marks (b ∷ bs)) (marks bs) (unmarked b bs h.0 h.1 e))
        ∙ next ∙ ap (λ x. 1 + x) rest)

-- ---- a word of eight bytes

wrapping : (a b : ℕ) → a < 2 ^ 64 → b < 2 ^ 64 → (a + (2 ^ 64 - b)) % 2 ^ 64 ≡ less true (2 ^ 64) a b
wrapping a b ha hb = by_test (nat_le b a) refl
  where
    by_test : (u : Bool) → nat_le b a ≡ u → (a + (2 ^ 64 - b)) % 2 ^ 64 ≡ less true (2 ^ 64) a b
    by_test true e = let k : b ≤ a = grind (arith, nat_tests) in rw e (omega (arith, k, ha, hb))
    by_test false e = let k : a < b = grind (arith, nat_tests) in rw e (omega (arith, k, ha, hb))

of_eight : (b0 b1 b2 b3 b4 b5 b6 b7 : ℕ) → let bs : List ℕ = b0 ∷ b1 ∷ b2 ∷ b3 ∷ b4 ∷ b5 ∷ b6 ∷ b7 ∷ [] in
    Bytes bs → trailing_zeros w64 (escapes_mask (from_le_bytes w64 bs)) / 8 ≡ position_or_len needs_escape bs
of_eight b0 b1 b2 b3 b4 b5 b6 b7 h =
    let bs : List ℕ = b0 ∷ b1 ∷ b2 ∷ b3 ∷ b4 ∷ b5 ∷ b6 ∷ b7 ∷ [] in
    let n = number bs in
    let is : from_le_bytes w64 bs ≡ n = omega arith in
    let small : n < 2 ^ 64 = number-lt-size bs h in
    let x1 = wrapping n 2314885530818453536 small (omega arith) in
    let x2 = wrapping (bit_xor n 2459565876494606882) 72340172838076673 (xor_lt 64 n 2459565876494606882 small (omega arith)) (omega arith) in
    let x3 = wrapping (bit_xor n 6655295901103053916) 72340172838076673 (xor_lt 64 n 6655295901103053916 small (omega arith)) (omega arith) in
    let at : escapes_mask n ≡ marks bs = (λ i. bit_and (bit_and (bit_or (bit_or (x1 i) (x2 i)) (x3 i)) (2 ^ 64 - 1 - n)) 9259542123273814144) in
    ap (λ x. trailing_zeros w64 (escapes_mask x) / 8) is ∙ ap (λ x. trailing_zeros w64 x / 8) at ∙ lowest_mark bs h

pub word_marks : (bs : List ℕ) → length bs ≡ 8 → ((k : ℕ) → get_or bs k 0 < 256) →
    trailing_zeros w64 (escapes_mask (from_le_bytes w64 bs)) / 8 ≡ position_or_len needs_escape bs
word_marks ([]) e h = absurd (omega (arith, e))
word_marks (b0 ∷ []) e h = absurd (omega (arith, e))
word_marks (b0 ∷ b1 ∷ []) e h = absurd (omega (arith, e))
word_marks (b0 ∷ b1 ∷ b2 ∷ []) e h = absurd (omega (arith, e))
word_marks (b0 ∷ b1 ∷ b2 ∷ b3 ∷ []) e h = absurd (omega (arith, e))
word_marks (b0 ∷ b1 ∷ b2 ∷ b3 ∷ b4 ∷ []) e h = absurd (omega (arith, e))
word_marks (b0 ∷ b1 ∷ b2 ∷ b3 ∷ b4 ∷ b5 ∷ []) e h = absurd (omega (arith, e))
word_marks (b0 ∷ b1 ∷ b2 ∷ b3 ∷ b4 ∷ b5 ∷ b6 ∷ []) e h = absurd (omega (arith, e))
word_marks (b0 ∷ b1 ∷ b2 ∷ b3 ∷ b4 ∷ b5 ∷ b6 ∷ b7 ∷ []) e h = of_eight b0 b1 b2 b3 b4 b5 b6 b7 (h 0, (h 1, (h 2, (h 3, (h 4, (h 5, (h 6, (h 7, tt))))))))
word_marks (b0 ∷ b1 ∷ b2 ∷ b3 ∷ b4 ∷ b5 ∷ b6 ∷ b7 ∷ b8 ∷ bs) e h = absurd (omega (arith, e))
