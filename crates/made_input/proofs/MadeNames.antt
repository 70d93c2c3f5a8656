-- The names of the made functions, and of their parameter, are short identifier names of plain bytes.
use Rattle.std.proofs.Common.{◌≡◌, ℕ, ◌+◌, ◌≤◌, ◌<◌, ◌^◌, ◌%◌, [], ◌∷◌, length, Bool, true, ◌&&◌, if◌then◌else◌, decimal, Some, None, option_and_then, refl, ap, ◌∙◌, arith}
use Rattle.std.proofs.lemmas.Bool.{and_from}
use Rattle.std.proofs.lemmas.Bool.Decides.{nat_tests}
use Rattle.std.proofs.lemmas.Fmt.{decimal_by_steps, length-decimal-le_succ}
use Rattle.std.proofs.lemmas.List.Folds.{list_all-append}
use Rattle.std.proofs.lemmas.Str.{IsUtf8-from_ascii, chars-IsAscii}
use Rattle.std.specs.List.{list_all}
use Rattle.json_text.proofs.Units.{text_of_units-units_of}
use Rattle.json_text.specs.Json.{string}
use Rattle.json_text.specs.Units.{units_of}
use Rattle.syntax_lex.specs.Identifier.{are_identifier_characters, is_identifier_name, is_identifier_part}
use Rattle.tree_core.specs.Reading.{name_part, one}
use Rattle.tree_nodes.specs.Tree.{Text, text}
use Rattle.made_input.proofs.PlainTexts.{IsAscii-plain, is_plain_byte, is_plain_text}
use Rattle.made_input.specs.Made.{function_name, parameter}

-- what holds of each digit holds of all digits of a number
all_digits : (test : ℕ → Bool) → ((n : ℕ) → n < 10 → test (48 + n) ≡ true) → (k : ℕ) → k < 2 ^ 64 → list_all test (decimal k) ≡ true
all_digits test digit =
    decimal_by_steps (λ n ds. list_all test ds ≡ true)
    (λ n h. and_from (test (48 + n)) true (digit n h) refl)
    (λ n ds h all. list_all-append test ds ((48 + n % 10) ∷ [])
    ∙ and_from (list_all test ds) (test (48 + n % 10) && true) all (and_from (test (48 + n % 10)) true (digit (n % 10) (omega arith)) refl))

digit_plain : (n : ℕ) → n < 10 → is_plain_byte (48 + n) ≡ true
digit_plain n h = grind (arith, nat_tests)

digit_part : (n : ℕ) → n < 10 → is_identifier_part (48 + n) ≡ true
digit_part n h = grind (arith, nat_tests)

pub digits_plain : (k : ℕ) → k ≤ 2000 → is_plain_text (decimal k) ≡ true
digits_plain k h = all_digits is_plain_byte digit_plain k (omega (arith, h))

pub name_plain : (k : ℕ) → k ≤ 2000 → is_plain_text (function_name k) ≡ true
unfolding function_name
name_plain k h = digits_plain k h

pub name_short : (k : ℕ) → k ≤ 2000 → length (function_name k) < 2 ^ 32
unfolding function_name
name_short k h = let few : length (decimal k) ≤ k + 1 = length-decimal-le_succ k (omega (arith, h)) in omega (arith, h, few)

name_identifier : (k : ℕ) → k ≤ 2000 → is_identifier_name (function_name k) ≡ true
unfolding is_identifier_name function_name
name_identifier k h =
    ap are_identifier_characters (chars-IsAscii (function_name k) (IsAscii-plain (function_name k) (name_plain k h)))
    ∙ all_digits is_identifier_part digit_part k (omega (arith, h))

parameter_identifier : is_identifier_name parameter ≡ true
unfolding is_identifier_name
parameter_identifier = ap are_identifier_characters (chars-IsAscii parameter (IsAscii-plain parameter refl))

-- a plain identifier name is read as itself
plain_name_read : (x : Text) → is_plain_text x ≡ true → is_identifier_name x ≡ true → name_part (string (units_of x)) ≡ Some (one (text x))
plain_name_read x plain name =
    ap (option_and_then (λ (y : Text). if is_identifier_name y then Some (one (text y)) else None)) (text_of_units-units_of x (IsUtf8-from_ascii x (IsAscii-plain x plain)))
    ∙ ap (λ (b : Bool). if b then Some (one (text x)) else None) name

pub name_read : (k : ℕ) → k ≤ 2000 → name_part (string (units_of (function_name k))) ≡ Some (one (text (function_name k)))
name_read k h = plain_name_read (function_name k) (name_plain k h) (name_identifier k h)

pub parameter_read : name_part (string (units_of parameter)) ≡ Some (one (text parameter))
parameter_read = plain_name_read parameter refl parameter_identifier
