-- Code units as bytes of canonical WTF-8 (https://wtf-8.codeberg.page/): a lead surrogate that a trail
-- surrogate follows is one supplementary code point with it, each other unit is a code point of its own,
-- and a code point has one to four bytes, by the pattern of UTF-8.
use Rattle.std.specs.Prelude.{◌≡◌, ℕ, Bool, true, false, ◌&&◌, nat_le, nat_lt, List, [], ◌∷◌}
use Rattle.std.specs.List.{list_any}
use Rattle.std.specs.Str.{chars, encode_utf8_all}
use Rattle.json_text.specs.Strings.{is_lead, is_trail, joined}
use Rattle.json_text.specs.Units.{are_code_units, units_of}

abbrev pub is_surrogate : ℕ → Bool
is_surrogate c = nat_le 0xD800 c && nat_lt c 0xE000

-- the code points of code units
unfoldable pub code_points : List ℕ → List ℕ
code_points [] = []
code_points (u ∷ []) = u ∷ []
code_points (u ∷ v ∷ us) = elim (is_lead u && is_trail v) [ true ↦ joined u v ∷ code_points us | false ↦ u ∷ code_points (v ∷ us) ]

-- the bytes of code units
unfoldable pub wtf8 : List ℕ → List ℕ
wtf8 us = encode_utf8_all (code_points us)

-- some surrogate is in no pair
unfoldable pub has_lone_surrogate : List ℕ → Bool
has_lone_surrogate us = list_any is_surrogate (code_points us)

-- these bytes are those of code units
pub record IsWtf8 (bytes : List ℕ) : Type 0 where
  pub units : are_code_units (units_of bytes) ≡ true
  pub canonical : wtf8 (units_of bytes) ≡ bytes

-- the bytes of code units give them back, and are WTF-8
abbrev pub BytesGiveUnitsBack : Type 0
BytesGiveUnitsBack = (us : List ℕ) → are_code_units us ≡ true → IsWtf8 (wtf8 us) × (units_of (wtf8 us) ≡ us)

-- the code points that the bytes of code units spell are those of the units
abbrev pub BytesSpellCodePoints : Type 0
BytesSpellCodePoints = (bytes : List ℕ) → IsWtf8 bytes → chars bytes ≡ code_points (units_of bytes)
