-- Which bytes of a text are escaped in a JSON string, and the marks of eight of them at once.
use Rattle.std.specs.Prelude.{ℕ, ◌+◌, ◌*◌, ◌-◌, ◌%◌, ◌^◌, List, [], ◌∷◌, Bool, ◌||◌, nat_lt, nat_eq, cond}
use Rattle.std.specs.Int.{w64, bit_not}
use Rattle.std.specs.Int.RustNames.{bit_and, bit_or, bit_xor}
use Rattle.json_text.specs.Strings.{char_text}

-- a byte that does not stand in a string as it is (RFC 8259, section 7)
abbrev pub needs_escape : ℕ → Bool
needs_escape b = nat_lt b 32 || (nat_eq b 34 || nat_eq b 92)

-- what a byte of a text writes into a string
abbrev pub byte_text : ℕ → List ℕ
byte_text b = cond (needs_escape b) (char_text b) (b ∷ [])

-- a byte, eight times
abbrev pub eight_times : ℕ → ℕ
eight_times b = 0x0101010101010101 * b

-- a - b, wrapping at 64 bits
abbrev pub less_wrapping : ℕ → ℕ → ℕ
less_wrapping a b = (a + (2 ^ 64 - b)) % 2 ^ 64

-- The marks of the eight bytes of a number: the top bit of a byte below 128 that is below a space, or
-- equal to a quotation mark or a backslash. A subtraction that borrows may mark bytes above that byte.
abbrev pub escapes_mask : ℕ → ℕ
escapes_mask n =
    bit_and (bit_and (bit_or (bit_or (less_wrapping n (eight_times 32)) (less_wrapping (bit_xor n (eight_times 34)) (eight_times 1)))
    (less_wrapping (bit_xor n (eight_times 92)) (eight_times 1))) (bit_not w64 n)) (eight_times 128)
