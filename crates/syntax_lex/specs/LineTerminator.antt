-- Line terminators (ECMA-262, 12.3), and the parts into which they divide a text. A character is its code point.
use Rattle.std.specs.Prelude.{ℕ, Bool, true, false, not, ◌||◌, ◌&&◌, ◌==◌, List, [], ◌∷◌, ◌++◌, map, drop, nat_eq, if◌then◌else◌}
use Rattle.std.specs.Cmp.Lexicographic.{pointwise}
use Rattle.std.specs.List.{list_any}
use Rattle.std.specs.Str.{chars}
use Rattle.syntax_lex.specs.declared.line_terminator.LineTerminatorSplitter.{LineTerminatorSplitter}

-- LINE FEED or CARRIAGE RETURN
abbrev pub is_regular_line_terminator : ℕ → Bool
is_regular_line_terminator c = (c == 10) || (c == 13)

-- LINE SEPARATOR or PARAGRAPH SEPARATOR
abbrev pub is_irregular_line_terminator : ℕ → Bool
is_irregular_line_terminator c = (c == 8232) || (c == 8233)

abbrev pub is_line_terminator : ℕ → Bool
is_line_terminator c = is_regular_line_terminator c || is_irregular_line_terminator c

-- the characters of a part, and those of the terminator that ends it: none where the text ends it
pub record Part : Type 0 where
  pub line : List ℕ
  pub terminator : List ℕ

abbrev pub begins_with_line_feed : List ℕ → Bool
begins_with_line_feed [] = false
begins_with_line_feed (c ∷ cs) = c == 10

-- the empty part that a terminator ends: CARRIAGE RETURN and the LINE FEED behind it are one terminator
abbrev pub before_terminator : ℕ → List ℕ → List Part → List Part
before_terminator c cs parts =
    if (c == 13) && begins_with_line_feed cs then record { line = []; terminator = 13 ∷ 10 ∷ [] } ∷ drop 1 parts
    else record { line = []; terminator = c ∷ [] } ∷ parts

-- one more character in front of the first part
abbrev pub before_parts : ℕ → List Part → List Part
before_parts c [] = record { line = c ∷ []; terminator = [] } ∷ []
before_parts c (part ∷ parts) = record { line = c ∷ part.line; terminator = part.terminator } ∷ parts

-- the parts into which line terminators divide the characters of a text; behind a last terminator there is none
unfoldable pub parts_of : List ℕ → List Part
parts_of [] = []
parts_of (c ∷ cs) =
    if is_line_terminator c then before_terminator c cs (parts_of cs) else before_parts c (parts_of cs)

-- the lines alone
abbrev pub lines_of : List ℕ → List (List ℕ)
lines_of cs = map (λ part. part.line) (parts_of cs)

-- what a splitter has still to divide
abbrev pub text_left : LineTerminatorSplitter → List ℕ
text_left splitter = splitter.text.now

abbrev pub lines_left : LineTerminatorSplitter → List (List ℕ)
lines_left splitter = lines_of (chars (text_left splitter))

-- a part with the terminator that ended it
abbrev pub whole : Part → List ℕ
whole part = part.line ++ part.terminator

-- no line terminator stands in it
abbrev pub is_line : List ℕ → Bool
is_line line = not (list_any is_line_terminator line)

-- one character, or CARRIAGE RETURN and LINE FEED
abbrev pub is_terminator : List ℕ → Bool
is_terminator [] = false
is_terminator (c ∷ []) = is_line_terminator c
is_terminator (c ∷ d ∷ []) = (c == 13) && (d == 10)
is_terminator (c ∷ d ∷ cs) = false

-- CARRIAGE RETURN ends the one part, and LINE FEED is all of the other
abbrev pub is_divided : Part → Part → Bool
is_divided part next =
    pointwise nat_eq part.terminator (13 ∷ []) && (pointwise nat_eq next.line [] && pointwise nat_eq next.terminator (10 ∷ []))

-- each part is ended by a terminator, which is never divided; the last one may be ended by the text, if its line isn't empty
abbrev pub are_ended : List Part → Bool
are_ended [] = true
are_ended (part ∷ []) =
    is_terminator part.terminator || (pointwise nat_eq part.terminator [] && not (pointwise nat_eq part.line []))
are_ended (part ∷ next ∷ parts) = is_terminator part.terminator && (not (is_divided part next) && are_ended (next ∷ parts))
