-- Identifier names (ECMA-262, 12.7). A text is its bytes, a character its code point.
use Rattle.std.specs.Prelude.{◌≡◌, ℕ, ◌+◌, ◌≤◌, Bool, true, false, not, ◌||◌, ◌&&◌, ◌==◌, nat_lt, List, [], ◌∷◌, length, take, if◌then◌else◌}
use Rattle.std.specs.Char.{is_ascii_alphabetic, is_ascii_digit}
use Rattle.std.specs.List.{list_all}
use Rattle.std.specs.Str.{chars}
use Rattle.unicode.specs.Binary.{is_id_start, is_id_continue}

-- an ASCII letter, `$` or `_`; past ASCII a character with the property ID_Start
abbrev pub is_identifier_start : ℕ → Bool
is_identifier_start c = if nat_lt c 128 then is_ascii_alphabetic c || (c == 36) || (c == 95) else is_id_start c

-- a start or an ASCII digit; past ASCII one with the property ID_Continue, U+200C or U+200D
abbrev pub is_identifier_part : ℕ → Bool
is_identifier_part c =
    if nat_lt c 128 then is_ascii_alphabetic c || is_ascii_digit c || (c == 36) || (c == 95)
    else is_id_continue c || (c == 8204) || (c == 8205)

-- a start, then parts only
abbrev pub are_identifier_characters : List ℕ → Bool
are_identifier_characters [] = false
are_identifier_characters (c ∷ cs) = is_identifier_start c && list_all is_identifier_part cs

unfoldable pub is_identifier_name : List ℕ → Bool
is_identifier_name text = are_identifier_characters (chars text)

-- U+30FB and U+FF65, the middle dots of Katakana: parts only since version 15.1 of Unicode
abbrev pub is_katakana_middle_dot : ℕ → Bool
is_katakana_middle_dot c = (c == 12539) || (c == 65381)

-- whether names with this character are taken: where patched, with no middle dot of Katakana
abbrev pub is_taken : Bool → ℕ → Bool
is_taken patched c = not (patched && is_katakana_middle_dot c)

abbrev pub is_taken_part : Bool → ℕ → Bool
is_taken_part patched c = is_identifier_part c && is_taken patched c

abbrev pub is_ascii_part : ℕ → Bool
is_ascii_part c = nat_lt c 128 && is_identifier_part c

-- the first n bytes are ASCII parts
pub record BeginsWithParts (n : ℕ) (bytes : List ℕ) : Type 0 where
  pub long_enough : n ≤ length bytes
  pub parts : list_all is_ascii_part (take n bytes) ≡ true

-- the entry of an ASCII character: 1 for a start, 2 for a part
abbrev pub ascii_id_flags : ℕ → ℕ
ascii_id_flags c = (if is_identifier_start c then 1 else 0) + (if is_identifier_part c then 2 else 0)
