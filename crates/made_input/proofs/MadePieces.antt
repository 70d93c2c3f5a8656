-- The made text is its pieces, one after the other.
use Rattle.std.proofs.Common.{◌≡◌, ℕ, zero, suc, ◌+◌, ◌≤◌, Bool, true, false, List, [], ◌∷◌, ◌++◌, codes, decimal, IsUtf8, refl, sym, ap, ◌∙◌, subst, arith, append_assoc}
use Rattle.std.proofs.lemmas.Fmt.{IsAscii-decimal}
use Rattle.std.proofs.lemmas.Str.{IsUtf8-append, IsUtf8-from_ascii, IsUtf8-nil}
use Rattle.json.specs.Print.{escape, escape_byte, print_from}
use Rattle.json.specs.Token.{Token}
use Rattle.json.specs.Tree.{items_tokens, json_tokens, members_tokens}
use Rattle.json.proofs.Printed.Utf8.{IsUtf8-are_ascii}
use Rattle.json_text.specs.Json.{member, no_members, null, string}
use Rattle.made_input.proofs.MadeNames.{digits_plain}
use Rattle.made_input.proofs.MadeValues.{function_value, function_values, program_plain, program_value, text_told}
use Rattle.made_input.proofs.PlainTexts.{escape_plain, raw, raw_items, raw_members, text_printed}
use Rattle.made_input.specs.Made.{function_name, made_text}
use Rattle.made_input.specs.Pieces.{after_functions, after_names, before_functions, before_name, between_names, comma_if, function_text, functions_text}

-- pieces with digits between them, of which each is followed by a quotation mark
digits_between : (a b c ds q r : List ℕ) → q ≡ ds ++ 34 ∷ [] → a ++ (q ++ (b ++ (q ++ (c ++ r)))) ≡ (a ++ (ds ++ ((34 ∷ b) ++ (ds ++ (34 ∷ c))))) ++ r
digits_between a b c ds q r e = rw e (simp append_assoc)

-- the pieces between the names and after them, without the quotation mark
abbrev between_quoted : List ℕ
between_quoted = codes "},\"generator\":false,\"async\":false,\"params\":[{\"type\":\"Identifier\",\"start\":0,\"end\":0,\"name\":\"a\"}],\"body\":{\"type\":\"BlockStatement\",\"start\":0,\"end\":0,\"body\":[{\"type\":\"ReturnStatement\",\"start\":0,\"end\":0,\"argument\":{\"type\":\"CallExpression\",\"start\":0,\"end\":0,\"callee\":{\"type\":\"Identifier\",\"start\":0,\"end\":0,\"name\":\"f"

abbrev after_quoted : List ℕ
after_quoted = codes "},\"arguments\":[{\"type\":\"Identifier\",\"start\":0,\"end\":0,\"name\":\"a\"}],\"optional\":false}}]},\"expression\":false}"

function_printed : (k : ℕ) (ts : List Token) → k ≤ 2000 → print_from false (json_tokens (raw (function_value (function_name k))) ++ ts) ≡ function_text k ++ print_from true ts
unfolding escape_byte print_from function_name function_text
function_printed k ts h =
    digits_between before_name between_quoted after_quoted (decimal k) (escape (decimal k) ++ 34 ∷ []) (print_from true ts)
    (ap (λ (t : List ℕ). t ++ 34 ∷ []) (escape_plain (decimal k) (digits_plain k h)))

-- the same where it is the first of a list, or comes later
function_later : (later : Bool) (k : ℕ) (ts : List Token) → k ≤ 2000
    → print_from later (json_tokens (raw (function_value (function_name k))) ++ ts) ≡ comma_if later ++ (function_text k ++ print_from true ts)
unfolding print_from
function_later true k ts h = ap (λ (t : List ℕ). 44 ∷ t) (function_printed k ts h)
function_later false k ts h = function_printed k ts h

regroup : (c a m r : List ℕ) → c ++ (a ++ (m ++ r)) ≡ (c ++ (a ++ m)) ++ r
regroup c a m r = simp append_assoc

functions_printed : (later : Bool) (k n : ℕ) (ts : List Token) → k + n ≤ 2000
    → print_from later (items_tokens (raw_items (function_values k n)) ++ ts) ≡ functions_text later k n ++ (93 ∷ print_from true ts)
unfolding print_from
functions_printed true k zero ts h = refl
functions_printed false k zero ts h = refl
functions_printed later k (suc n) ts h =
    let f = json_tokens (raw (function_value (function_name k))) in
    let rest = items_tokens (raw_items (function_values (suc k) n)) in
    ap (print_from later) (append_assoc f rest ts)
    ∙ function_later later k (rest ++ ts) (omega (arith, h))
    ∙ ap (λ (t : List ℕ). comma_if later ++ (function_text k ++ t)) (functions_printed true (suc k) n ts (omega (arith, h)))
    ∙ regroup (comma_if later) (function_text k) (functions_text true (suc k) n) (93 ∷ print_from true ts)

-- what stands after the functions
abbrev last_tokens : List Token
last_tokens = members_tokens (raw_members (member (codes "sourceType") (string (codes "module")) (member (codes "hashbang") null no_members)))

pub text_in_pieces : (n : ℕ) → n ≤ 2000 → made_text n ≡ before_functions ++ (functions_text false 0 n ++ after_functions)
unfolding escape_byte print_from
text_in_pieces n h =
    text_told n h ∙ text_printed (program_value (function_values 0 n)) (program_plain n h)
    ∙ ap (λ (t : List ℕ). before_functions ++ t) (functions_printed false 0 n last_tokens (omega (arith, h)))

-- ---- it is UTF-8

function_utf8 : (k : ℕ) → k ≤ 2000 → IsUtf8 (function_text k)
unfolding function_text
function_utf8 k h =
    let digits : IsUtf8 (decimal k) = IsUtf8-from_ascii (decimal k) (IsAscii-decimal k (omega (arith, h))) in
    IsUtf8-append before_name _ (IsUtf8-are_ascii before_name refl) (IsUtf8-append (decimal k) _ digits
    (IsUtf8-append between_names _ (IsUtf8-are_ascii between_names refl) (IsUtf8-append (decimal k) after_names digits (IsUtf8-are_ascii after_names refl))))

comma_utf8 : (later : Bool) → IsUtf8 (comma_if later)
comma_utf8 true = IsUtf8-are_ascii (44 ∷ []) refl
comma_utf8 false = IsUtf8-nil

functions_utf8 : (later : Bool) (k n : ℕ) → k + n ≤ 2000 → IsUtf8 (functions_text later k n)
functions_utf8 later k zero h = IsUtf8-nil
functions_utf8 later k (suc n) h =
    IsUtf8-append (comma_if later) _ (comma_utf8 later)
    (IsUtf8-append (function_text k) _ (function_utf8 k (omega (arith, h))) (functions_utf8 true (suc k) n (omega (arith, h))))

pub text_utf8 : (n : ℕ) → n ≤ 2000 → IsUtf8 (made_text n)
text_utf8 n h =
    subst IsUtf8 (sym (text_in_pieces n h))
    (IsUtf8-append before_functions _ (IsUtf8-are_ascii before_functions refl)
    (IsUtf8-append (functions_text false 0 n) after_functions (functions_utf8 false 0 n (omega (arith, h))) (IsUtf8-are_ascii after_functions refl)))
