-- A set of numbers in words of 64 bits.
use Rattle.std.specs.Prelude.{◌≡◌, ℕ, ◌*◌, ◌/◌, ◌%◌, ◌<◌, ◌≤◌, Bool, false, ◌==◌, List, map, length, slice_index}
use Rattle.std.specs.Int.{bit_at}
use Rattle.std.specs.List.{range_with_len}

-- whether the bit of the number i is set
abbrev pub bit_of : List ℕ → ℕ → Bool
bit_of words i = bit_at (slice_index words (i / 64)) (i % 64) == 1

-- the set of the numbers below len whose bits are set
unfoldable pub flags : List ℕ → ℕ → List Bool
flags words len = map (bit_of words) (range_with_len 0 len)

-- the lowest set bit of a word that is at `from` or above is at `place`
pub record IsNextBit (word from place : ℕ) : Type 0 where
  pub low : from ≤ place
  pub high : place < 64
  pub set_here : bit_at word place ≡ 1
  pub none_below : (i : ℕ) → from ≤ i → i < place → bit_at word i ≡ 0

-- a word has no set bit at `from` or above
abbrev pub HasNoBitFrom : ℕ → ℕ → Type 0
HasNoBitFrom word from = (i : ℕ) → from ≤ i → bit_at word i ≡ 0

-- there are words for all numbers below len, and no bit of another number is set
pub record AreWordsOf (words : List ℕ) (len : ℕ) : Type 0 where
  pub room : len ≤ 64 * length words
  pub rest : (i : ℕ) → len ≤ i → bit_of words i ≡ false
