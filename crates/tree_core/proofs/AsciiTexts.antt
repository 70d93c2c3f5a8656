-- ASCII texts are their own code units.
use Rattle.std.proofs.Common.{◌≡◌, ℕ, zero, suc, List, [], ◌∷◌, true, nat_lt, Some, sym, ap, ◌∙◌, arith, ltb-true, IsAscii}
use Rattle.std.proofs.lemmas.Str.{IsUtf8-from_ascii}
use Rattle.json_text.specs.Units.{text_of_units}
use Rattle.json_text.proofs.Units.{text_of_units-units_of, units_of-IsAscii}
use Rattle.tree_core.specs.Readable.{is_ascii}
use Rattle.tree_nodes.proofs.Cases.{both}

pub ascii_text : (bytes : List ℕ) → is_ascii bytes ≡ true → IsAscii bytes
ascii_text [] e i = omega arith
ascii_text (b ∷ bs) e zero = ltb-true b 128 (both (nat_lt b 128) (is_ascii bs) e).0
ascii_text (b ∷ bs) e (suc i) = ascii_text bs (both (nat_lt b 128) (is_ascii bs) e).1 i

-- an ASCII text is the text of itself as code units
pub text_of_ascii : (bytes : List ℕ) → is_ascii bytes ≡ true → text_of_units bytes ≡ Some bytes
text_of_ascii bytes e =
    let a = ascii_text bytes e in
    sym (ap text_of_units (units_of-IsAscii bytes a)) ∙ text_of_units-units_of bytes (IsUtf8-from_ascii bytes a)
