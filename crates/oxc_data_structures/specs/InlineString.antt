-- How an `InlineString` keeps its text.
use Rattle.std.specs.Prelude.{◌≡◌, ℕ, ◌-◌, ◌≤◌, List, ◌++◌, length, take, drop, replicate}
use Rattle.std.specs.Str.{IsAscii}
use Rattle.std.proofs.Common.{arith, sym, ap, ◌∙◌, take-append-drop, length-take-le}

-- the first n of these bytes are a text, and zeros are behind it
pub record IsTextOf (capacity : ℕ) (bytes : List ℕ) (n : ℕ) : Type 0 where
  pub fits : n ≤ capacity
  pub size : length bytes ≡ capacity
  pub padding : drop n bytes ≡ replicate (capacity - n) 0
  pub ascii : IsAscii (take n bytes)

-- the text is as long as it is said to be
pub length-front : (capacity : ℕ) (bytes : List ℕ) (n : ℕ) → IsTextOf capacity bytes n → length (take n bytes) ≡ n
length-front capacity bytes n h = length-take-le n bytes (omega arith)

-- the text and the zeros behind it are all the bytes
pub zero_padded : (capacity : ℕ) (bytes : List ℕ) (n : ℕ) → IsTextOf capacity bytes n
    → take n bytes ++ replicate (capacity - length (take n bytes)) 0 ≡ bytes
zero_padded capacity bytes n h =
    ap (λ k. take n bytes ++ replicate (capacity - k) 0) (length-front capacity bytes n h)
    ∙ ap (λ t. take n bytes ++ t) (sym h.padding) ∙ take-append-drop n bytes
