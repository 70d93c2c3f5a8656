-- The members of a set as a list.
use Rattle.std.proofs.Common.{◌≡◌, ℕ, zero, suc, ◌+◌, ◌-◌, ◌/◌, ◌%◌, ◌==◌, nat_lt, slice_index, ◌<◌, ◌≤◌, List, [], ◌∷◌, length, get_or, drop, Bool, true, false, refl, sym, ap, ◌∙◌, arith, true≢false}
use Rattle.std.proofs.Math.ListN.{drop_of_length-le}
use Rattle.std.proofs.lemmas.List.{drop_more}
use Rattle.std.specs.Int.{bit_at}
use Rattle.arena_core.specs.Words.{bit_of, flags, IsNextBit, HasNoBitFrom, AreWordsOf}
use Rattle.arena_core.proofs.Words.{length-flags, get_or-flags}
use Rattle.std.proofs.lemmas.Bool.Decides.{nat_tests}
use Rattle.arena_core.specs.BitSet.{members_from, members_at}

members_at-here : (bs : List Bool) (i : ℕ) → i < length bs → members_at i bs ≡ members_from i (get_or bs i false ∷ drop (i + 1) bs)
members_at-here bs i h = ap (members_from i) (drop_more bs i false h)

-- a member comes before those above it
pub members_at-member : (bs : List Bool) (i : ℕ) → i < length bs → get_or bs i false ≡ true → members_at i bs ≡ i ∷ members_at (i + 1) bs
members_at-member bs i h e = members_at-here bs i h ∙ ap (λ (b : Bool). members_from i (b ∷ drop (i + 1) bs)) e

members_at-step : (bs : List Bool) (i : ℕ) → i < length bs → get_or bs i false ≡ false → members_at i bs ≡ members_at (i + 1) bs
members_at-step bs i h e = members_at-here bs i h ∙ ap (λ (b : Bool). members_from i (b ∷ drop (i + 1) bs)) e

-- numbers that are no members are passed over
pub members_at-skip : (bs : List Bool) (i n : ℕ) → i + n ≤ length bs → ((k : ℕ) → i ≤ k → k < i + n → get_or bs k false ≡ false) → members_at i bs ≡ members_at (i + n) bs
members_at-skip bs i zero h e = ap (λ (j : ℕ). members_at j bs) {x = i} {y = i + 0} (omega arith)
members_at-skip bs i (suc n) h e =
    members_at-step bs i (omega arith) (e i (omega arith) (omega arith))
    ∙ members_at-skip bs (i + 1) n (omega arith) (λ k l u. e k (omega arith) (omega arith))
    ∙ ap (λ (j : ℕ). members_at j bs) {x = i + 1 + n} {y = i + suc n} (omega arith)

-- past the end there are none
pub members_at-end : (bs : List Bool) (i : ℕ) → length bs ≤ i → members_at i bs ≡ []
members_at-end bs i h = ap (members_from i) (drop_of_length-le bs h)

-- ---- in words

module _ (words : List ℕ) (len at : ℕ) (w : AreWordsOf words len) where
  abbrev word : ℕ
  word = slice_index words (at / 64)

  bit_in_word : (place : ℕ) → place < 64 → bit_of words (at - at % 64 + place) ≡ (bit_at word place == 1)
  bit_in_word place h =
      let whole : (at - at % 64 + place) / 64 ≡ at / 64 = omega arith in
      let part : (at - at % 64 + place) % 64 ≡ place = omega arith in
      rw (whole, part)

  set_in_word : (place : ℕ) → place < 64 → bit_at word place ≡ 1 → bit_of words (at - at % 64 + place) ≡ true
  set_in_word place h e = bit_in_word place h ∙ ap (λ (b : ℕ). b == 1) e

  clear_in_word : (k : ℕ) → at ≤ k → k < at - at % 64 + 64 → bit_at word (k - (at - at % 64)) ≡ 0 → bit_of words k ≡ false
  clear_in_word k l h e =
      let same : k ≡ at - at % 64 + (k - (at - at % 64)) = omega arith in
      ap (bit_of words) same ∙ bit_in_word (k - (at - at % 64)) (omega arith) ∙ ap (λ (b : ℕ). b == 1) e

  -- the lowest set bit of the word is the next member
  pub next_member-below : (place : ℕ) → IsNextBit (slice_index words (at / 64)) (at % 64) place → at - at % 64 + place < len
  next_member-below place n = by_test (nat_lt (at - at % 64 + place) len) refl
    where
      by_test : (b : Bool) → nat_lt (at - at % 64 + place) len ≡ b → at - at % 64 + place < len
      by_test true t = grind (arith, nat_tests)
      by_test false t =
          let past : len ≤ at - at % 64 + place = grind (arith, nat_tests) in
          absurd (true≢false (sym (set_in_word place n.high n.set_here) ∙ w.rest (at - at % 64 + place) past))

  pub members_at-next : (place : ℕ) → IsNextBit (slice_index words (at / 64)) (at % 64) place
      → members_at at (flags words len) ≡ (at - at % 64 + place) ∷ members_at (at - at % 64 + place + 1) (flags words len)
  members_at-next place n =
      let low = n.low in
      let high = n.high in
      let below = next_member-below place n in
      let total = length-flags words len in
      let reached : at + (at - at % 64 + place - at) ≡ at - at % 64 + place = omega arith in
      members_at-skip (flags words len) at (at - at % 64 + place - at) (omega arith)
      (λ k l h. get_or-flags words len k false (omega arith) ∙ clear_in_word k l (omega arith) (n.none_below (k - (at - at % 64)) (omega arith) (omega arith)))
      ∙ ap (λ (i : ℕ). members_at i (flags words len)) reached
      ∙ members_at-member (flags words len) (at - at % 64 + place) (omega arith)
      (get_or-flags words len (at - at % 64 + place) false below ∙ set_in_word place high n.set_here)

  -- a word without another set bit is passed over
  pub members_at-word : (n : ℕ) → HasNoBitFrom (slice_index words (at / 64)) (at % 64) → n ≤ 64 - at % 64 → at + n ≤ len
      → members_at at (flags words len) ≡ members_at (at + n) (flags words len)
  members_at-word n none h l =
      let total = length-flags words len in
      members_at-skip (flags words len) at n (omega arith)
      (λ k low high. get_or-flags words len k false (omega arith) ∙ clear_in_word k low (omega arith) (none (k - (at - at % 64)) (omega arith)))
