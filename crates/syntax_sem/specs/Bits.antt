-- Sets of flags as numbers, of which each bit is a flag.
use Rattle.std.specs.Prelude.{ℕ, ◌^◌, Bool, not, ◌==◌, List, [], ◌∷◌}
use Rattle.std.specs.Int.RustNames.{bit_and, bit_or}

-- the flag whose bit is bit i
abbrev pub bit : ℕ → ℕ
bit i = 2 ^ i

-- the flags of all these sets
abbrev pub union_of : List ℕ → ℕ
union_of [] = 0
union_of (set ∷ sets) = bit_or set (union_of sets)

-- each of the flags is in the set
abbrev pub has_all : ℕ → ℕ → Bool
has_all set flags = bit_and set flags == flags

-- some of the flags is in the set
abbrev pub has_any : ℕ → ℕ → Bool
has_any set flags = not (bit_and set flags == 0)
