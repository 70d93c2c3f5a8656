-- Texts, as bytes of UTF-8, and the UTF-16 code units that JavaScript and JSON see in them.
use Rattle.std.specs.Prelude.{ℕ, ◌≡◌, List, [], ◌∷◌, ◌++◌, Bool, not, ◌&&◌, nat_lt, Option, Some, None, encode_utf8, flat_map, if◌then◌else◌}
use Rattle.std.specs.Char.Escape.{encode_utf16}
use Rattle.std.specs.Char.Utf16.{utf16_chars, has_unpaired_surrogate}
use Rattle.std.specs.List.{list_all}
use Rattle.std.specs.Str.{chars, IsUtf8}

-- the code units of a text
abbrev pub units_of : List ℕ → List ℕ
units_of bytes = flat_map encode_utf16 (chars bytes)

-- the bytes of characters, of which None stands for a surrogate alone
abbrev pub bytes_of : List (Option ℕ) → List ℕ
bytes_of [] = []
bytes_of (None ∷ cs) = bytes_of cs
bytes_of (Some c ∷ cs) = encode_utf8 c ++ bytes_of cs

-- numbers of 16 bits
abbrev pub are_code_units : List ℕ → Bool
are_code_units units = list_all (λ u. nat_lt u 65536) units

-- the text of code units, where no surrogate stands alone
abbrev pub text_of_units : List ℕ → Option (List ℕ)
text_of_units units = if are_code_units units && not (has_unpaired_surrogate units) then Some (bytes_of (utf16_chars units)) else None

-- the code units of a text give it back
abbrev pub UnitsGiveTextBack : Type 0
UnitsGiveTextBack = (bytes : List ℕ) → IsUtf8 bytes → text_of_units (units_of bytes) ≡ Some bytes

-- where code units have a text, it gives them back
abbrev pub TextGivesUnitsBack : Type 0
TextGivesUnitsBack = (units bytes : List ℕ) → text_of_units units ≡ Some bytes → IsUtf8 bytes × (units_of bytes ≡ units)
