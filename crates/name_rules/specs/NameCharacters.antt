-- The law on the characters of short names.
use Rattle.std.specs.Prelude.{◌≡◌, ℕ, true}
use Rattle.name_rules.specs.ShortNames.{short}
use Rattle.syntax_lex.specs.Identifier.{is_identifier_name}

-- each is an identifier name
abbrev pub ShortNamesAreIdentifiers : Type 0
ShortNamesAreIdentifiers = (n : ℕ) → is_identifier_name (short n) ≡ true
