-- What is shown of a string.
use Rattle.std.specs.Prelude.{ℕ, List, cond, encode_utf8, flat_map}
use Rattle.json_text.specs.Strings.{unit_escape}
use Rattle.oxc_str.specs.Wtf8.{is_surrogate}
use Rattle.oxc_str.specs.declared.js_str_display.JSStrDisplay.{JSStrDisplay}

-- a character as it is, and a surrogate as an escape
abbrev pub shown_char : ℕ → List ℕ
shown_char c = cond (is_surrogate c) (unit_escape c) (encode_utf8 c)

abbrev pub shown : List ℕ → List ℕ
shown cs = flat_map shown_char cs

-- the bytes of the string
abbrev pub shown_string : JSStrDisplay → List ℕ
shown_string d = d.string.bytes.now
