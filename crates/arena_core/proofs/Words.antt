-- The bits of words.
use Rattle.std.proofs.Common.{◌≡◌, ◌≢◌, ℕ, zero, suc, ◌+◌, ◌-◌, ◌*◌, ◌/◌, ◌%◌, ◌^◌, ◌<◌, ◌≤◌, List, length, get_or, set, replicate, Bool, true, false, ◌==◌, nat_eq, refl, sym, ap, ◌∙◌, subst, arith, shr-shr, shr_lt, pow_mono, lt_of_lt_of_le, nat_lt, bit_or, bit_and, ltb-true, Some, eqb-true, eq-eqb, true≢false}
use Rattle.std.specs.List.{slice_get}
use Rattle.std.proofs.Math.Nat.{pos_of_ne-zero}
use Rattle.std.proofs.lemmas.Option.{same_Some, slice_get-get_or, slice_get_within}
use Rattle.std.proofs.lemmas.Bool.Decides.{nat_tests}
use Rattle.std.specs.Int.{bit_at, w64, trailing_zeros}
use Rattle.std.proofs.lemmas.Nat.Bits.{bit_at-zero, bit_at_above, bit_at-trailing_zeros, shr_and_one, bit_at_set_same, bit_at_set_other}
use Rattle.std.proofs.lemmas.List.{length-set, get_or-set_same, get_or-set_other, get_or-replicate, length-replicate, ext_get_or}
use Rattle.std.proofs.lemmas.List.FromFn.{length-map-range_with_len, get_or-map-range_with_len}
use Rattle.arena_core.specs.Words.{bit_of, flags, IsNextBit, HasNoBitFrom, AreWordsOf}

-- ---- one word

bit_at-shr : (word from i : ℕ) → bit_at (word / 2 ^ from) i ≡ bit_at word (from + i)
bit_at-shr word from i = ap (λ (n : ℕ). n % 2) (shr-shr word from i)

bit_at-from : (word from i : ℕ) → from ≤ i → bit_at word i ≡ bit_at (word / 2 ^ from) (i - from)
bit_at-from word from i h =
    let same : from + (i - from) ≡ i = omega arith in
    sym (bit_at-shr word from (i - from) ∙ ap (bit_at word) same)

-- a word without set bits from here on
pub HasNoBitFrom-shr : (word from : ℕ) → word / 2 ^ from ≡ 0 → HasNoBitFrom word from
HasNoBitFrom-shr word from e i h = bit_at-from word from i h ∙ ap (λ (n : ℕ). bit_at n (i - from)) e ∙ bit_at-zero (i - from)

within : (n k i : ℕ) → n < 2 ^ k → bit_at n i ≡ 1 → i < k
within n k i h e = by_test (nat_lt i k) refl
  where
    by_test : (b : Bool) → nat_lt i k ≡ b → i < k
    by_test true t = grind (arith, nat_tests)
    by_test false t =
        let past : k ≤ i = grind (arith, nat_tests) in
        let none = bit_at_above n k i h past in
        absurd (omega arith)

pub next_bit : (word from : ℕ) → word < 2 ^ 64 → from < 64 → word / 2 ^ from ≢ 0 → IsNextBit word from (from + trailing_zeros w64 (word / 2 ^ from))
next_bit word from w f e =
    let rest : ℕ = word / 2 ^ from in
    let split : (64 - from) + from ≡ 64 = omega arith in
    let short : rest < 2 ^ (64 - from) = shr_lt (64 - from) from (subst (λ (n : ℕ). word < 2 ^ n) (sym split) w) in
    let some : 0 < rest = pos_of_ne-zero e in
    let wide : 2 ^ (64 - from) ≤ 2 ^ 64 = pow_mono {i = 64 - from} {j = 64} (omega arith) in
    let t = bit_at-trailing_zeros w64 rest some (lt_of_lt_of_le short wide) in
    let place : trailing_zeros w64 rest < 64 - from = within rest (64 - from) (trailing_zeros w64 rest) short t.1 in
    record {
      low = omega arith;
      high = omega arith;
      set_here = sym (bit_at-shr word from (trailing_zeros w64 rest)) ∙ t.1;
      none_below = λ i l h. bit_at-from word from i l ∙ t.2 (i - from) (omega arith);
    }

-- ---- all words

pub length-flags : (words : List ℕ) (len : ℕ) → length (flags words len) ≡ len
unfolding flags
length-flags words len = length-map-range_with_len (bit_of words) 0 len

pub get_or-flags : (words : List ℕ) (len i : ℕ) (d : Bool) → i < len → get_or (flags words len) i d ≡ bit_of words i
unfolding flags
get_or-flags words len i d h = get_or-map-range_with_len (bit_of words) 0 len i i d h (omega arith)

no_word : (n i : ℕ) → ◌≡◌ {A = ℕ} (get_or (replicate n 0) i 0) 0
no_word zero i = refl
no_word (suc n) zero = refl
no_word (suc n) (suc i) = no_word n i

no_bit : (n i : ℕ) → bit_of (replicate n 0) i ≡ false
no_bit n i = ap (λ (w : ℕ). bit_at w (i % 64) == 1) (no_word n (i / 64)) ∙ ap (λ (b : ℕ). b == 1) (bit_at-zero (i % 64))

-- words without set bits are the empty set
pub AreWordsOf-zeros : (n len : ℕ) → len ≤ 64 * n → AreWordsOf (replicate n 0) len
AreWordsOf-zeros n len h = record { room = omega (arith, length-replicate {A = ℕ} n 0); rest = λ i _. no_bit n i }

pub flags-zeros : (n len : ℕ) → flags (replicate n 0) len ≡ replicate len false
flags-zeros n len =
    ext_get_or false (flags (replicate n 0) len) (replicate len false) (length-flags (replicate n 0) len ∙ sym (length-replicate len false))
    (λ i h.
    let within : i < len = omega (arith, length-flags (replicate n 0) len) in
    get_or-flags (replicate n 0) len i false within ∙ no_bit n i ∙ sym (get_or-replicate len i false false within))

-- the test of a bit
pub has_bit-within : (words : List ℕ) (len i word : ℕ) → i < len → word ≡ get_or words (i / 64) 0
    → ((nat_eq (bit_and (word / 2 ^ (i % 64)) 1) 1 ≡ true) → slice_get (flags words len) i ≡ Some true) × (slice_get (flags words len) i ≡ Some true → nat_eq (bit_and (word / 2 ^ (i % 64)) 1) 1 ≡ true)
has_bit-within words len i word h e =
    let test : nat_eq (bit_and (word / 2 ^ (i % 64)) 1) 1 ≡ bit_of words i = ap (λ (b : ℕ). nat_eq b 1) (shr_and_one word (i % 64)) ∙ ap (λ (w : ℕ). nat_eq (bit_at w (i % 64)) 1) e in
    let found : slice_get (flags words len) i ≡ Some (bit_of words i) =
    slice_get-get_or (flags words len) i false (omega (arith, length-flags words len)) ∙ ap Some (get_or-flags words len i false h) in
    (λ t. found ∙ ap Some (sym test ∙ t), λ s. test ∙ same_Some _ _ (sym found ∙ s))

pub has_bit-past : (words : List ℕ) (len i : ℕ) → len ≤ i
    → ((nat_lt i len ≡ true) → slice_get (flags words len) i ≡ Some true) × (slice_get (flags words len) i ≡ Some true → nat_lt i len ≡ true)
has_bit-past words len i h =
    (λ t. absurd (omega (arith, ltb-true i len t)), λ s. absurd (omega (arith, slice_get_within (flags words len) i true s, length-flags words len)))

-- a bit that is set
module _ (words : List ℕ) (i : ℕ) (within : i / 64 < length words) where
  abbrev pub new_word : ℕ
  new_word = bit_or (get_or words (i / 64) 0) (1 * 2 ^ (i % 64) % 2 ^ 64)

  abbrev pub with_bit : List ℕ
  with_bit = set words (i / 64) new_word

  bit_of-set_same : bit_of with_bit i ≡ true
  bit_of-set_same =
      ap (λ (w : ℕ). bit_at w (i % 64) == 1) (get_or-set_same words (i / 64) new_word 0 within)
      ∙ ap (λ (b : ℕ). b == 1) (bit_at_set_same w64 (get_or words (i / 64) 0) (i % 64) (omega arith))

  bit_of-set_other : (j : ℕ) → j ≢ i → bit_of with_bit j ≡ bit_of words j
  bit_of-set_other j other = by_test (nat_eq (j / 64) (i / 64)) refl
    where
      by_test : (b : Bool) → nat_eq (j / 64) (i / 64) ≡ b → bit_of with_bit j ≡ bit_of words j
      by_test true t =
          let same_word : j / 64 ≡ i / 64 = eqb-true _ _ t in
          let other_place : j % 64 ≢ i % 64 = λ e. other (omega arith) in
          rw same_word
          (ap (λ (w : ℕ). bit_at w (j % 64) == 1) (get_or-set_same words (i / 64) new_word 0 within)
          ∙ ap (λ (b : ℕ). b == 1) (bit_at_set_other w64 (get_or words (i / 64) 0) (i % 64) (omega arith) (j % 64) other_place))
      by_test false t =
          let other_word : j / 64 ≢ i / 64 = λ e. true≢false (sym (eq-eqb _ _ e) ∙ t) in
          ap (λ (w : ℕ). bit_at w (j % 64) == 1) (get_or-set_other words (i / 64) (j / 64) new_word 0 other_word)

  pub AreWordsOf-set : (len : ℕ) → i < len → AreWordsOf words len → AreWordsOf with_bit len
  AreWordsOf-set len h w = record {
    room = omega (arith, w.room, length-set words (i / 64) new_word);
    rest = λ j past. bit_of-set_other j (λ e. omega arith) ∙ w.rest j past;
  }

  pub flags-set : (len : ℕ) → flags with_bit len ≡ set (flags words len) i true
  flags-set len =
      let lengths : length (flags with_bit len) ≡ length (set (flags words len) i true) = length-flags with_bit len ∙ sym (length-set (flags words len) i true ∙ length-flags words len) in
      ext_get_or false (flags with_bit len) (set (flags words len) i true) lengths
      (λ j h.
      let below : j < len = omega (arith, length-flags with_bit len) in
      get_or-flags with_bit len j false below ∙ at j below)
    where
      at : (j : ℕ) → j < len → bit_of with_bit j ≡ get_or (set (flags words len) i true) j false
      at j below = by_test (nat_eq j i) refl
        where
          by_test : (b : Bool) → nat_eq j i ≡ b → bit_of with_bit j ≡ get_or (set (flags words len) i true) j false
          by_test true t =
              let here : j ≡ i = eqb-true _ _ t in
              rw here (bit_of-set_same ∙ sym (get_or-set_same (flags words len) i true false (omega (arith, length-flags words len))))
          by_test false t =
              let other : j ≢ i = λ e. true≢false (sym (eq-eqb _ _ e) ∙ t) in
              bit_of-set_other j other ∙ sym (get_or-set_other (flags words len) i j true false other ∙ get_or-flags words len j false below)
