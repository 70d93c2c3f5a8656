-- The meanings of the values that come with the crate.
use Rattle.std.specs.Prelude.{ℕ, ◌/◌, ◌%◌, List, [], ◌∷◌, Option, Some, None}
use Rattle.json_text.specs.Strings.{hex_digit}
use Rattle.json_text.specs.Json.{null}
use Rattle.oxc_estree.specs.Out.{Meaning, plain}

abbrev pub option_meaning : {T : Type 0} → (T → Meaning) → Option T → Meaning
option_meaning f (Some v) = f v
option_meaning f None = plain null

-- what an option adds to a list
abbrev pub option_elements : {T : Type 0} → (T → Meaning) → Option T → List Meaning
option_elements f (Some v) = f v ∷ []
option_elements f None = []

-- two hexadecimal digits
abbrev pub hex_pair : ℕ → List ℕ
hex_pair byte = hex_digit (byte / 16) ∷ hex_digit (byte % 16) ∷ []
