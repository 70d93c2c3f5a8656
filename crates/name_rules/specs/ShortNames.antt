-- The order in which names are taken, that of oxc_mangler's base54.
use Rattle.std.specs.Prelude.{ℕ, zero, suc, ◌+◌, ◌/◌, ◌%◌, Bool, true, false, nat_lt, [], ◌∷◌, ◌++◌, codes, get_or, if◌then◌else◌}
use Rattle.tree_nodes.specs.Tree.{Text}

-- the 64 characters of names; a name begins with one of the first 54
abbrev pub characters : Text
characters = codes "etnriaoscludfpmhg_vybxSCwTEDOkAjMNPFILRzBVHUWGKqJYXZQ$1024368579"

-- the characters after the first, where m is left of the number. Its digits are 1 to 64, lowest first. Fuel of m is enough
unfoldable pub more_characters : (fuel : ℕ) → ℕ → Text
more_characters zero m = []
more_characters (suc fuel) zero = []
more_characters (suc fuel) (suc m) = get_or characters (m % 64) 0 ∷ more_characters fuel (m / 64)

-- the n-th name, from 0: the lowest digit is in base 54, so 54 names have one character, and each further length has 64 times as many
unfoldable pub short : ℕ → Text
short n = get_or characters (n % 54) 0 ∷ more_characters n (n / 54)

-- the decimal digits of n, before what follows. Fuel past the number of digits is enough
unfoldable pub digits_onto : (fuel : ℕ) → ℕ → Text → Text
digits_onto zero n after = after
digits_onto (suc fuel) n after = elim (nat_lt n 10) [ true ↦ (48 + n) ∷ after | false ↦ digits_onto fuel (n / 10) ((48 + n % 10) ∷ after) ]

-- `slot_` and n
unfoldable pub readable_name : ℕ → Text
readable_name n = codes "slot_" ++ digits_onto (suc n) n []

-- the n-th candidate
unfoldable pub candidate : (readable : Bool) → ℕ → Text
candidate readable n = if readable then readable_name n else short n
