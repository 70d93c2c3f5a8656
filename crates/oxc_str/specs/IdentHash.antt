-- The hash of an identifier's bytes, and the state that they make of a hasher. The numbers are those of oxc's `ident_hasher`.
use Rattle.std.specs.Prelude.{ℕ, ◌+◌, ◌-◌, ◌*◌, ◌/◌, ◌%◌, ◌^◌, cond, nat_eq, nat_lt, List, length, slice_index, bit_xor}
use Rattle.std.specs.Int.{rotate_left, w32}

abbrev pub seed_1 : ℕ
seed_1 = 0x9E37_79B9

abbrev pub seed_2 : ℕ
seed_2 = 0x85EB_CA6B

-- the low half of the product of two numbers of 32 bits, xor its high half
abbrev pub mix : ℕ → ℕ → ℕ
mix a b = bit_xor (a * b % 2 ^ 32) (a * b / 2 ^ 32)

-- the four bytes from i on as a number, the lowest byte first
abbrev pub read_u32 : List ℕ → ℕ → ℕ
read_u32 s i = slice_index s i + slice_index s (i + 1) * 0x100 + slice_index s (i + 2) * 0x1_0000 + slice_index s (i + 3) * 0x100_0000

-- the first, the middle and the last byte of n
abbrev pub packed : List ℕ → ℕ → ℕ
packed s n = slice_index s 0 * 0x1_0000 + slice_index s (n / 2) * 0x100 + slice_index s (n - 1)

-- by how many bytes there are: none, up to 3, up to 8, up to 16, and more
abbrev pub hash_below_4 : List ℕ → ℕ → ℕ
hash_below_4 s n = mix (bit_xor (packed s n) seed_1) (bit_xor (packed s n) seed_2)

abbrev pub hash_to_8 : List ℕ → ℕ → ℕ
hash_to_8 s n = mix (bit_xor (read_u32 s 0) seed_1) (bit_xor (read_u32 s (n - 4)) seed_2)

abbrev pub hash_to_16 : List ℕ → ℕ → ℕ
hash_to_16 s n = mix (bit_xor (bit_xor (read_u32 s 0) (read_u32 s (n / 2 - 2))) seed_1) (bit_xor (read_u32 s (n - 4)) seed_2)

abbrev pub hash_past_16 : List ℕ → ℕ → ℕ
hash_past_16 s n =
    mix (bit_xor (bit_xor (read_u32 s 0) (read_u32 s (n / 3))) seed_1) (bit_xor (bit_xor (read_u32 s (2 * n / 3)) (read_u32 s (n - 4))) seed_2)

-- the hash of these bytes, a number of 32 bits
unfoldable pub ident_hash : List ℕ → ℕ
ident_hash s = let n = length s in
    cond (nat_eq n 0) 0
    (cond (nat_lt n 4) (hash_below_4 s n)
    (cond (nat_lt n 9) (hash_to_8 s n)
    (cond (nat_lt n 17) (hash_to_16 s n)
    (hash_past_16 s n))))

-- the state of a text of this length, modulo 2 ^ 32, and of this hash
unfoldable pub state_of : ℕ → ℕ → ℕ
state_of len hash = bit_xor hash (rotate_left w32 (len % 2 ^ 32) 16) + hash * 2 ^ 32

-- the state that a write of these bytes leaves, whatever it was before
abbrev pub written : List ℕ → ℕ
written bytes = state_of (length bytes) (ident_hash bytes)
