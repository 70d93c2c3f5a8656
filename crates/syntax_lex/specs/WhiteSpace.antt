-- White space (ECMA-262, 12.2). A character is its code point.
use Rattle.std.specs.Prelude.{ℕ, Bool, not, ◌||◌, ◌&&◌, ◌==◌, nat_le}
use Rattle.std.specs.Char.{is_whitespace}

-- TABULATION, LINE TABULATION, FORM FEED and ZERO WIDTH NO-BREAK SPACE
abbrev pub is_white_space_control : ℕ → Bool
is_white_space_control c = (c == 9) || (c == 11) || (c == 12) || (c == 65279)

-- Unicode's category Space_Separator: its White_Space without the controls and the two separators of lines
abbrev pub is_space_separator : ℕ → Bool
is_space_separator c =
    is_whitespace c
    && not ((c == 9) || (c == 10) || (c == 11) || (c == 12) || (c == 13) || (c == 133) || (c == 8232) || (c == 8233))

abbrev pub is_white_space : ℕ → Bool
is_white_space c = is_white_space_control c || is_space_separator c

-- what ESLint's rule no-irregular-whitespace reports, but for the separators of lines and U+180E
abbrev pub is_irregular_whitespace : ℕ → Bool
is_irregular_whitespace c =
    (c == 11) || (c == 12) || (c == 160) || (c == 65279) || (c == 133) || (c == 5760)
    || (nat_le 8192 c && nat_le c 8203) || (c == 8239) || (c == 8287) || (c == 12288)

-- SPACE, TABULATION and these
abbrev pub is_white_space_single_line : ℕ → Bool
is_white_space_single_line c = (c == 32) || (c == 9) || is_irregular_whitespace c
