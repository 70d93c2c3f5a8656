-- Strings that are given as code points, surrogates among them, and the iterators that give them.
use Rattle.std.specs.Prelude.{ℕ, List, [], ◌∷◌, ◌++◌, ◌||◌, cond, nat_le, nat_lt, flat_map, Option}
use Rattle.std.specs.Char.Escape.{encode_utf16}
use Rattle.std.specs.Iterator.{AlwaysYields, Count, IsFinite}
use Rattle.json_text.specs.Strings.{char_text, flush, is_lead, is_trail, trail_text}

-- from this state on an iterator may be asked, ends, and gives these items
pub record Gives {S : Type 0} (can : S → Type 0) (left : S → Count) (steps : S → Option ℕ → S → Type 0) (s : S) (items : List ℕ) : Type 0 where
  pub can_next : can s
  pub ends : IsFinite (left s)
  pub yields : AlwaysYields steps (λ x. x) s items

-- The code units of a code point (ECMA-262, section 11.1.1). A number above 10FFFF is none, and stands
-- for the replacement character.
abbrev pub point_units : ℕ → List ℕ
point_units c = cond (nat_lt c 0x110000) (encode_utf16 c) (0xfffd ∷ [])

abbrev pub points_units : List ℕ → List ℕ
points_units cs = flat_map point_units cs

-- the character of a code point, or the replacement character
abbrev pub point_char : ℕ → ℕ
point_char c = cond (is_lead c || (is_trail c || nat_le 0x110000 c)) 0xfffd c

-- what a code point writes, after a lead surrogate that waits
abbrev pub point_text : Option ℕ → ℕ → List ℕ
point_text p c = cond (is_trail c) (trail_text p c) (flush p ++ cond (is_lead c) [] (char_text (point_char c)))
