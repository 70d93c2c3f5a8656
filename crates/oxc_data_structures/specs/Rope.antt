-- The lines of a text, and places in it by byte offset or by line and column.
use Rattle.std.specs.Prelude.{◌≡◌, ℕ, ◌+◌, ◌-◌, ◌≤◌, Bool, false, cond, not, ◌&&◌, ◌||◌, ◌==◌, nat_le, nat_lt, List, [], ◌∷◌, length, take, drop, count_by, sum_by, slice_index, slice_index_or}
use Rattle.std.specs.Char.{len_utf8}
use Rattle.std.specs.Str.{IsCharBoundary, IsUtf8, chars}

-- LF, VT, FF, CR, NEL (U+0085), LS (U+2028) and PS (U+2029) end a line (The Unicode Standard, section 5.8)
abbrev pub is_line_break : ℕ → Bool
is_line_break c = (nat_le 0x0A c && nat_le c 0x0D) || c == 0x85 || c == 0x2028 || c == 0x2029

-- a CR with an LF behind it
abbrev pub is_crlf : ℕ → List ℕ → Bool
is_crlf c [] = false
is_crlf c (next ∷ rest) = c == 0x0D && next == 0x0A

-- a line ends behind this character, with those characters following: CR and LF together are one break
abbrev pub ends_line : ℕ → List ℕ → Bool
ends_line c following = is_line_break c && not (is_crlf c following)

-- the offsets at which lines start behind some of these characters, the first of which begins at an offset
abbrev pub starts_behind : ℕ → List ℕ → List ℕ
starts_behind offset [] = []
starts_behind offset (c ∷ cs) =
    let next = offset + len_utf8 c in
    let later = starts_behind next cs in
    cond (ends_line c cs) (next ∷ later) later

-- the offsets at which the lines of a text start
abbrev pub line_starts : List ℕ → List ℕ
line_starts text = 0 ∷ starts_behind 0 (chars text)

-- where a line starts, and where it ends, its break included. Lines count from 0
abbrev pub line_start : List ℕ → ℕ → ℕ
line_start text line = slice_index (line_starts text) line

abbrev pub line_end : List ℕ → ℕ → ℕ
line_end text line = slice_index_or (line_starts text) (line + 1) (length text)

-- what stands between two offsets of a text
abbrev pub between : List ℕ → ℕ → ℕ → List ℕ
between text from to = take (to - from) (drop from text)

-- the text of a line, its break included
abbrev pub line_text : List ℕ → ℕ → List ℕ
line_text text line = between text (line_start text line) (line_end text line)

-- how many UTF-16 code units a character takes (The Unicode Standard, section 3.9), and how many a text does
abbrev pub len_utf16 : ℕ → ℕ
len_utf16 c = cond (nat_lt c 0x1_0000) 1 2

abbrev pub units_of : List ℕ → ℕ
units_of text = sum_by len_utf16 (chars text)

-- the line of an offset: the last one that starts at or before it
abbrev pub line_of : List ℕ → ℕ → ℕ
line_of text offset = count_by (λ start. nat_le start offset) (line_starts text) - 1

-- the column of an offset: the UTF-16 code units from the start of its line
abbrev pub column_of : List ℕ → ℕ → ℕ
column_of text offset = units_of (between text (line_start text (line_of text offset)) offset)

-- an offset within a line at which a character begins or ends, at most so many units from the line's start
pub record IsWithin (text : List ℕ) (line column offset : ℕ) : Type 0 where
  pub boundary : IsCharBoundary text offset
  pub from_start : line_start text line ≤ offset
  pub to_end : offset ≤ line_end text line
  pub units : units_of (between text (line_start text line) offset) ≤ column

-- the greatest such offset
pub record IsOffsetOf (text : List ℕ) (line column offset : ℕ) : Type 0 where
  pub within : IsWithin text line column offset
  pub greatest : (other : ℕ) → IsWithin text line column other → other ≤ offset

-- the text may be cut behind so many bytes, and what is before takes at most so many units
pub record IsFit (text : List ℕ) (limit len : ℕ) : Type 0 where
  pub boundary : IsCharBoundary text len
  pub units : units_of (take len text) ≤ limit

-- the greatest such number of bytes
pub record IsFittingLen (text : List ℕ) (limit len : ℕ) : Type 0 where
  pub fits : IsFit text limit len
  pub greatest : (other : ℕ) → IsFit text limit other → other ≤ len

-- the way there and back: an offset is the one of its line and column, and the only one
pub record IsFoundAgain (text : List ℕ) (offset : ℕ) : Type 0 where
  pub found : IsOffsetOf text (line_of text offset) (column_of text offset) offset
  pub alone : (other : ℕ) → IsOffsetOf text (line_of text offset) (column_of text offset) other → other ≡ offset

-- the way back undoes the way there, at each place where the text may be cut
abbrev pub OffsetIsFoundAgain : Type 0
OffsetIsFoundAgain = (text : List ℕ) (offset : ℕ) → IsUtf8 text → IsCharBoundary text offset → IsFoundAgain text offset
