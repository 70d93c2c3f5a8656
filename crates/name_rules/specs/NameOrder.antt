-- The laws on the order of names.
use Rattle.std.specs.Prelude.{◌≡◌, ◌≤◌, ◌<◌, ℕ, suc, ◌+◌, ◌*◌, cond, nat_eq, [], ◌∷◌, length, IsTrue}
use Rattle.name_rules.specs.FreeNames.{is_spelled}
use Rattle.name_rules.specs.ShortNames.{characters, short}
use Rattle.tree_nodes.specs.Tree.{Text}

-- no two numbers have one name
abbrev pub ShortIsOneToOne : Type 0
ShortIsOneToOne = (m n : ℕ) → short m ≡ short n → m ≡ n

-- a later name isn't shorter
abbrev pub LengthsNeverFall : Type 0
LengthsNeverFall = (m n : ℕ) → m ≤ n → length (short m) ≤ length (short n)

-- so a shorter name comes first
abbrev pub ShorterNamesComeFirst : Type 0
ShorterNamesComeFirst = (m n : ℕ) → length (short m) < length (short n) → m < n

-- where a character stands in a list
abbrev pub place_in : Text → ℕ → ℕ
place_in [] c = 0
place_in (d ∷ ds) c = cond (nat_eq c d) 0 (suc (place_in ds c))

-- the digit of a character: where it stands among those of names, from 0 on
unfoldable pub digit : ℕ → ℕ
digit c = place_in characters c

-- the number that the characters after the first are: in base 64, lowest first, each digit one more
abbrev pub number_after : Text → ℕ
number_after [] = 0
number_after (c ∷ cs) = 1 + digit c + 64 * number_after cs

-- the number that a name is: its first character is the lowest digit, in base 54
abbrev pub number_of_name : Text → ℕ
number_of_name [] = 0
number_of_name (c ∷ cs) = digit c + 54 * number_after cs

-- the n-th name is spelled by the characters of names, and is the number n
abbrev pub ShortIsItsNumber : Type 0
ShortIsItsNumber = (n : ℕ) → IsTrue (is_spelled (short n)) × (number_of_name (short n) ≡ n)

-- each name that these characters spell is that of its number
abbrev pub ShortIsOnto : Type 0
ShortIsOnto = (x : Text) → IsTrue (is_spelled x) → short (number_of_name x) ≡ x
