-- What `serde_json` reads from the compact text of a plain value.
use Rattle.std.proofs.Common.{◌≡◌, ◌≤◌, ◌++◌, List, [], true, ◌&&◌, codes, Option, Some, option_and_then, option_map, subst, sym, ap, ◌∙◌, arith, append-nil}
use Rattle.std.proofs.lemmas.Bool.{and_parts}
use Rattle.std.proofs.lemmas.Fmt.{decimal_digit}
use Rattle.json.specs.Json as json
use Rattle.json.specs.Json.{if_last, value}
use Rattle.json.specs.Lex.{tokens}
use Rattle.json.specs.Print.{IsNumber}
use Rattle.json.specs.Token.{Token}
use Rattle.json.specs.Tree.{depth, json_tokens, HasNumbers, ItemsHaveNumbers, MembersHaveNumbers}
use Rattle.json.proofs.Printed.Decimals.{IsNumber-decimal}
use Rattle.json.proofs.Printed.Tokens.{tokens-print}
use Rattle.json.proofs.Printed.Trees.{ArePrintable-json_tokens, value-json_tokens}
use Rattle.json_text.specs.Json.{Json, null, truth, whole, other_number, string, list, object, Items, no_items, item, Members, no_members, member}
use Rattle.json_text.specs.Layout.{compact}
use Rattle.json_text.specs.Text.{text_of}
use Rattle.serde_json.specs.Data.{number, unsigned}
use Rattle.serde_json.specs.Read.{max_depth, number_of, of_json, read}
use Rattle.serde_json.proofs.Numbers.{number_of-decimal}
use Rattle.made_input.proofs.PlainTexts.{are_plain, have_plain, is_plain, is_plain_text, raw, raw_items, raw_members, text_printed}

nought_is_number : IsNumber (codes "0")
nought_is_number = subst IsNumber (decimal_digit 0 (omega arith)) (IsNumber-decimal 0 (omega arith))

-- 0 is read as a number of 64 bits
pub nought_read : of_json (json.number (codes "0")) ≡ Some (number (unsigned 0))
nought_read = ap (option_map number) (ap number_of (sym (decimal_digit 0 (omega arith))) ∙ number_of-decimal 0 (omega arith))

mutual
  has_numbers : (v : Json) → is_plain v ≡ true → HasNumbers (raw v)
  has_numbers null h = tt
  has_numbers (truth b) h = tt
  has_numbers (whole n) h = nought_is_number
  has_numbers other_number h = absurd (cc)
  has_numbers (string us) h = tt
  has_numbers (list xs) h = items_have_numbers xs h
  has_numbers (object ms) h = members_have_numbers ms h

  items_have_numbers : (xs : Items) → are_plain xs ≡ true → ItemsHaveNumbers (raw_items xs)
  items_have_numbers no_items h = tt
  items_have_numbers (item x xs) h =
      let p = and_parts (is_plain x) (are_plain xs) h in
      (has_numbers x p.0, items_have_numbers xs p.1)

  members_have_numbers : (ms : Members) → have_plain ms ≡ true → MembersHaveNumbers (raw_members ms)
  members_have_numbers no_members h = tt
  members_have_numbers (member k x ms) h =
      let p = and_parts (is_plain_text k) (is_plain x && have_plain ms) h in
      let q = and_parts (is_plain x) (have_plain ms) p.1 in
      (has_numbers x q.0, members_have_numbers ms q.1)

-- the text of a plain value reads as what `json`'s value of it is read as, unless it nests too deeply
pub plain_text_reads : (v : Json) → is_plain v ≡ true → depth (raw v) ≤ max_depth → read (text_of compact v) ≡ of_json (raw v)
plain_text_reads v h shallow =
    let ts : tokens (text_of compact v) ≡ json_tokens (raw v) ++ [] =
    ap tokens (text_printed v h) ∙ tokens-print (json_tokens (raw v)) (ArePrintable-json_tokens (raw v) (has_numbers v h)) ∙ sym (append-nil (json_tokens (raw v))) in
    ap (λ (o : Option (json.Json × List Token)). option_and_then of_json (option_and_then (λ p. if_last p.0 p.1) o))
    (ap (value max_depth) ts ∙ value-json_tokens (raw v) max_depth [] shallow)
