-- The compact text of a value whose strings need no escape and whose numbers are all 0 is what `json` prints of its tokens.
use Rattle.std.proofs.Common.{◌≡◌, ℕ, zero, suc, ◌<◌, pos, negsuc, List, [], ◌∷◌, ◌++◌, Bool, true, false, not, ◌&&◌, ◌||◌, nat_lt, flat_map, codes, None, refl, sym, ap, ap₂, ◌∙◌, arith, append_assoc, append-nil}
use Rattle.std.proofs.lemmas.Bool.{and_parts}
use Rattle.std.proofs.lemmas.Bool.Decides.{nat_tests}
use Rattle.std.proofs.lemmas.Fmt.{decimal_digit}
use Rattle.std.proofs.lemmas.Str.{IsUtf8-from_ascii}
use Rattle.std.specs.List.{list_all}
use Rattle.std.specs.Str.{IsAscii}
use Rattle.json.specs.Json as json
use Rattle.json.specs.Print.{escape, escape_byte, print, print_from, quoted}
use Rattle.json.specs.Token.{Token}
use Rattle.json.specs.Tree.{json_tokens, items_tokens, members_tokens}
use Rattle.json.proofs.Printed.Strings.{escape_byte_plain}
use Rattle.json_text.proofs.Units.{units_of-IsAscii}
use Rattle.json_text.specs.Json.{Json, null, truth, whole, other_number, string, list, object, Items, no_items, item, Members, no_members, member}
use Rattle.json_text.specs.Layout.{compact}
use Rattle.json_text.specs.Strings.{quoted_units, units_text}
use Rattle.json_text.specs.Text.{comma_unless, items_text, members_text, text_of}
use Rattle.oxc_estree.proofs.ByteTexts.{units_text-bytes}
use Rattle.oxc_estree.specs.Escapes.{byte_text}

-- an ASCII byte that stands in a string as it is; letters and digits are among them
abbrev pub is_plain_byte : ℕ → Bool
is_plain_byte b = nat_lt 34 b && nat_lt b 92 || nat_lt 92 b && nat_lt b 128

abbrev pub is_plain_text : List ℕ → Bool
is_plain_text bytes = list_all is_plain_byte bytes

-- all strings of a value are plain, and all its numbers are 0
abbrev mutual
  pub is_plain : Json → Bool
  is_plain null = true
  is_plain (truth b) = true
  is_plain (whole (pos zero)) = true
  is_plain (whole (pos (suc n))) = false
  is_plain (whole (negsuc n)) = false
  is_plain other_number = false
  is_plain (string us) = is_plain_text us
  is_plain (list xs) = are_plain xs
  is_plain (object ms) = have_plain ms

  pub are_plain : Items → Bool
  are_plain no_items = true
  are_plain (item x xs) = is_plain x && are_plain xs

  pub have_plain : Members → Bool
  have_plain no_members = true
  have_plain (member k x ms) = is_plain_text k && (is_plain x && have_plain ms)

-- such a value as `json` has it
abbrev mutual
  pub raw : Json → json.Json
  raw null = json.null
  raw (truth b) = json.boolean b
  raw (whole n) = json.number (codes "0")
  raw other_number = json.null
  raw (string us) = json.string us
  raw (list xs) = json.array (raw_items xs)
  raw (object ms) = json.object (raw_members ms)

  pub raw_items : Items → json.Items
  raw_items no_items = json.no_items
  raw_items (item x xs) = json.item (raw x) (raw_items xs)

  pub raw_members : Members → json.Members
  raw_members no_members = json.no_members
  raw_members (member k x ms) = json.member k (raw x) (raw_members ms)

-- ---- strings

plain_ascii : (b : ℕ) → is_plain_byte b ≡ true → b < 128
plain_ascii b h = grind (arith, nat_tests)

plain_byte : (b : ℕ) → is_plain_byte b ≡ true → byte_text b ≡ b ∷ []
plain_byte b h = grind (arith, nat_tests)

plain_escape : (b : ℕ) → is_plain_byte b ≡ true → escape_byte b ≡ b ∷ []
plain_escape b h =
    let above : 34 < b = grind (arith, nat_tests) in
    escape_byte_plain b (λ e. omega (arith, above, e)) (λ e. grind (arith, nat_tests)) (omega (arith, above))

pub IsAscii-plain : (bytes : List ℕ) → is_plain_text bytes ≡ true → IsAscii bytes
IsAscii-plain [] h i = omega arith
IsAscii-plain (b ∷ bs) h zero = plain_ascii b (and_parts (is_plain_byte b) (is_plain_text bs) h).0
IsAscii-plain (b ∷ bs) h (suc i) = IsAscii-plain bs (and_parts (is_plain_byte b) (is_plain_text bs) h).1 i

plain_bytes : (bytes : List ℕ) → is_plain_text bytes ≡ true → flat_map byte_text bytes ≡ bytes
plain_bytes [] h = refl
plain_bytes (b ∷ bs) h =
    let p = and_parts (is_plain_byte b) (is_plain_text bs) h in
    ap₂ (λ (x y : List ℕ). x ++ y) (plain_byte b p.0) (plain_bytes bs p.1)

pub escape_plain : (bytes : List ℕ) → is_plain_text bytes ≡ true → escape bytes ≡ bytes
escape_plain [] h = refl
escape_plain (b ∷ bs) h =
    let p = and_parts (is_plain_byte b) (is_plain_text bs) h in
    ap₂ (λ (x y : List ℕ). x ++ y) (plain_escape b p.0) (escape_plain bs p.1)

-- code units that are ASCII are their own text
units_plain : (us : List ℕ) → is_plain_text us ≡ true → units_text None us ≡ us
units_plain us h =
    let a = IsAscii-plain us h in
    ap (units_text None) (sym (units_of-IsAscii us a)) ∙ units_text-bytes us (IsUtf8-from_ascii us a) ∙ plain_bytes us h

quoted_plain : (us : List ℕ) → is_plain_text us ≡ true → quoted_units us ≡ quoted us
quoted_plain us h = ap (λ (t : List ℕ). 34 ∷ (t ++ 34 ∷ [])) (units_plain us h ∙ sym (escape_plain us h))

-- ---- what is printed, before more tokens

regroup : (c a b d : List ℕ) → c ++ (a ++ (b ++ d)) ≡ (c ++ (a ++ b)) ++ d
regroup c a b d = simp append_assoc

-- of an element's tokens, j, and those after it
one_item : (later : Bool) (j rest ts : List Token) (c a m r : List ℕ) → print_from later (j ++ (rest ++ ts)) ≡ c ++ (a ++ print_from true (rest ++ ts))
    → print_from true (rest ++ ts) ≡ m ++ r → print_from later ((j ++ rest) ++ ts) ≡ (c ++ (a ++ m)) ++ r
one_item later j rest ts c a m r value more =
    ap (print_from later) (append_assoc j rest ts) ∙ value ∙ ap (λ (t : List ℕ). c ++ (a ++ t)) more ∙ regroup c a m r

one_member : (j rest ts : List Token) (q k a m r : List ℕ) → q ≡ k → print_from false (j ++ (rest ++ ts)) ≡ a ++ print_from true (rest ++ ts)
    → print_from true (rest ++ ts) ≡ m ++ r → q ++ print_from false ((j ++ rest) ++ ts) ≡ (k ++ (a ++ m)) ++ r
one_member j rest ts q k a m r same value more =
    ap (λ (l : List Token). q ++ print_from false l) (append_assoc j rest ts) ∙ ap (λ (t : List ℕ). q ++ t) (value ∙ ap (λ (t : List ℕ). a ++ t) more)
    ∙ ap (λ (t : List ℕ). t ++ (a ++ (m ++ r))) same ∙ regroup k a m r

bracket : (t r : List ℕ) (b : ℕ) → t ++ (b ∷ r) ≡ (t ++ b ∷ []) ++ r
bracket t r b = sym (append_assoc t (b ∷ []) r)

mutual
  unfolding print_from

  value_printed : (later : Bool) (v : Json) (ts : List Token) → is_plain v ≡ true
      → print_from later (json_tokens (raw v) ++ ts) ≡ comma_unless (not later) ++ (text_of compact v ++ print_from true ts)
  value_printed true null ts h = refl
  value_printed false null ts h = refl
  value_printed true (truth true) ts h = refl
  value_printed true (truth false) ts h = refl
  value_printed false (truth true) ts h = refl
  value_printed false (truth false) ts h = refl
  value_printed true (whole (pos zero)) ts h = ap (λ (t : List ℕ). 44 ∷ (t ++ print_from true ts)) (sym (decimal_digit 0 (omega arith)))
  value_printed false (whole (pos zero)) ts h = ap (λ (t : List ℕ). t ++ print_from true ts) (sym (decimal_digit 0 (omega arith)))
  value_printed later (whole (pos (suc n))) ts h = absurd (cc)
  value_printed later (whole (negsuc n)) ts h = absurd (cc)
  value_printed later other_number ts h = absurd (cc)
  value_printed true (string us) ts h = ap (λ (t : List ℕ). 44 ∷ (t ++ print_from true ts)) (sym (quoted_plain us h))
  value_printed false (string us) ts h = ap (λ (t : List ℕ). t ++ print_from true ts) (sym (quoted_plain us h))
  value_printed true (list xs) ts h = ap (λ (t : List ℕ). 44 ∷ 91 ∷ t) (items_printed true xs ts h ∙ bracket (items_text true compact xs) (print_from true ts) 93)
  value_printed false (list xs) ts h = ap (λ (t : List ℕ). 91 ∷ t) (items_printed true xs ts h ∙ bracket (items_text true compact xs) (print_from true ts) 93)
  value_printed true (object ms) ts h = ap (λ (t : List ℕ). 44 ∷ 123 ∷ t) (members_printed true ms ts h ∙ bracket (members_text true compact ms) (print_from true ts) 125)
  value_printed false (object ms) ts h = ap (λ (t : List ℕ). 123 ∷ t) (members_printed true ms ts h ∙ bracket (members_text true compact ms) (print_from true ts) 125)

  items_printed : (first : Bool) (xs : Items) (ts : List Token) → are_plain xs ≡ true
      → print_from (not first) (items_tokens (raw_items xs) ++ ts) ≡ items_text first compact xs ++ (93 ∷ print_from true ts)
  items_printed true no_items ts h = refl
  items_printed false no_items ts h = refl
  items_printed true (item x xs) ts h =
      let p = and_parts (is_plain x) (are_plain xs) h in
      one_item false (json_tokens (raw x)) (items_tokens (raw_items xs)) ts [] (text_of compact x) (items_text false compact xs) (93 ∷ print_from true ts)
      (value_printed false x (items_tokens (raw_items xs) ++ ts) p.0) (items_printed false xs ts p.1)
  items_printed false (item x xs) ts h =
      let p = and_parts (is_plain x) (are_plain xs) h in
      one_item true (json_tokens (raw x)) (items_tokens (raw_items xs)) ts (44 ∷ []) (text_of compact x) (items_text false compact xs) (93 ∷ print_from true ts)
      (value_printed true x (items_tokens (raw_items xs) ++ ts) p.0) (items_printed false xs ts p.1)

  members_printed : (first : Bool) (ms : Members) (ts : List Token) → have_plain ms ≡ true
      → print_from (not first) (members_tokens (raw_members ms) ++ ts) ≡ members_text first compact ms ++ (125 ∷ print_from true ts)
  members_printed true no_members ts h = refl
  members_printed false no_members ts h = refl
  members_printed true (member k x ms) ts h =
      let p = and_parts (is_plain_text k) (is_plain x && have_plain ms) h in
      let q = and_parts (is_plain x) (have_plain ms) p.1 in
      one_member (json_tokens (raw x)) (members_tokens (raw_members ms)) ts (quoted k ++ 58 ∷ []) (quoted_units k ++ 58 ∷ []) (text_of compact x) (members_text false compact ms) (125 ∷ print_from true ts)
      (ap (λ (t : List ℕ). t ++ 58 ∷ []) (sym (quoted_plain k p.0))) (value_printed false x (members_tokens (raw_members ms) ++ ts) q.0) (members_printed false ms ts q.1)
  members_printed false (member k x ms) ts h =
      let p = and_parts (is_plain_text k) (is_plain x && have_plain ms) h in
      let q = and_parts (is_plain x) (have_plain ms) p.1 in
      ap (λ (t : List ℕ). 44 ∷ t)
      (one_member (json_tokens (raw x)) (members_tokens (raw_members ms)) ts (quoted k ++ 58 ∷ []) (quoted_units k ++ 58 ∷ []) (text_of compact x) (members_text false compact ms) (125 ∷ print_from true ts)
      (ap (λ (t : List ℕ). t ++ 58 ∷ []) (sym (quoted_plain k p.0))) (value_printed false x (members_tokens (raw_members ms) ++ ts) q.0) (members_printed false ms ts q.1))

-- the whole text
pub text_printed : (v : Json) → is_plain v ≡ true → text_of compact v ≡ print (json_tokens (raw v))
unfolding print_from
text_printed v h = sym (ap (print_from false) (sym (append-nil (json_tokens (raw v)))) ∙ value_printed false v [] h ∙ append-nil (text_of compact v))
