-- A decimal number from 1 to 2,000, as a word has it.
use Rattle.std.specs.Prelude.{ℕ, ◌+◌, ◌-◌, ◌*◌, Bool, false, not, ◌&&◌, List, [], ◌∷◌, nat_eq, nat_le, Option, Some, None, option_and_then, if◌then◌else◌}

-- the number followed by a digit, if that is at most 2,000
unfoldable pub with_digit : ℕ → ℕ → Option ℕ
with_digit n d = if nat_le 48 d && nat_le d 57 && nat_le (n * 10 + (d - 48)) 2000 then Some (n * 10 + (d - 48)) else None

-- the number followed by digits, if that is at most 2,000
unfoldable pub number_from : ℕ → List ℕ → Option ℕ
number_from n [] = Some n
number_from n (d ∷ ds) = option_and_then (λ m. number_from m ds) (with_digit n d)

-- there are characters, and the first is no zero
unfoldable pub begins : List ℕ → Bool
begins [] = false
begins (d ∷ ds) = not (nat_eq d 48)

-- the number that a word is, from 1 to 2,000, without a leading zero
unfoldable pub made_number : List ℕ → Option ℕ
made_number x = if begins x then number_from 0 x else None
