-- The cases of a Literal, by its fields: value, raw, pattern, flags, bigint.
use Rattle.std.specs.Prelude.{Bool, true, false, ◌&&◌, ◌||◌, nat_eq, nat_le, [], ◌∷◌, bytes_eq, codes, if◌then◌else◌}
use Rattle.tree_nodes.specs.declared.literals.LiteralCase.{LiteralCase}
use Rattle.tree_nodes.specs.declared.literals.LiteralCase.TheVariants as case
use Rattle.tree_nodes.specs.Tree.{Atom, Parts, Text, atom, empty, flag, part, text, units, whole}

abbrev pub holds_text : Parts → Bool
holds_text (atom (text t) more) = true
holds_text _ = false

-- the text begins with a digit or a point
unfoldable pub begins_number : Text → Bool
begins_number [] = false
begins_number (c ∷ cs) = nat_le 48 c && nat_le c 57 || nat_eq c 46

-- a Literal without a value, a pattern and a bigint, by its raw text: null, or a number that is no whole number below 2^64
unfoldable pub by_raw : Parts → LiteralCase
by_raw (atom (text r) more) = if bytes_eq r (codes "null") then case.Null else if begins_number r then case.OtherNumber else case.NoCase
by_raw (atom empty more) = case.Null
by_raw _ = case.NoCase

unfoldable pub without_value : Parts → Parts → Parts → LiteralCase
without_value raw (atom (text p) x) (atom empty y) = case.RegExp
without_value raw (atom empty x) (atom (text b) y) = case.BigInt
without_value raw (atom empty x) (atom empty y) = by_raw raw
without_value raw _ _ = case.NoCase

-- what a value is where nothing names another case
unfoldable pub with_value : Atom → Parts → Parts → LiteralCase
with_value (units u) (atom empty x) (atom empty y) = case.Text
with_value (flag b) (atom empty x) (atom empty y) = case.Boolean
with_value (whole n) (atom empty x) (atom empty y) = case.Number
with_value _ _ _ = case.NoCase

unfoldable pub case_from : (value raw pattern bigint : Parts) → LiteralCase
case_from (atom empty more) raw pattern bigint = without_value raw pattern bigint
case_from (atom a more) raw pattern bigint = with_value a pattern bigint
case_from _ raw pattern bigint = case.NoCase

unfoldable pub case_of : Parts → LiteralCase
case_of fields = case_from (part fields 0) (part fields 1) (part fields 2) (part fields 4)

unfoldable pub has_case : Parts → Bool
has_case fields = elim (case_of fields) [ case.NoCase ↦ false | _ ↦ true ]

-- a Literal that prints as null and is marked
unfoldable pub is_fixed : Parts → Bool
is_fixed fields = elim (case_of fields) [ case.RegExp ↦ true | case.BigInt ↦ true | _ ↦ false ]

unfoldable pub is_text : Parts → Bool
is_text fields = elim (case_of fields) [ case.Text ↦ true | _ ↦ false ]

-- a Literal that may be a key
unfoldable pub is_key : Parts → Bool
is_key fields = elim (case_of fields) [ case.Text ↦ true | case.Number ↦ true | case.OtherNumber ↦ true | case.BigInt ↦ true | _ ↦ false ]
