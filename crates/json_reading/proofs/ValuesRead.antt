-- What is read from the text of a value, in any layout.
use Rattle.std.proofs.Common.{◌≡◌, ℕ, suc, ◌≤◌, pos, negsuc, List, [], ◌++◌, Option, Some, option_map, option_and_then, refl, sym, ap, ◌∙◌, arith, append-nil}
use Rattle.json.proofs.Printed.Trees.{value-json_tokens}
use Rattle.json.specs.Json as json
use Rattle.json.specs.Json.{if_last, value}
use Rattle.json.specs.Lex.{between, fresh, lex, punctuate, tokens}
use Rattle.json.specs.Token.{Token}
use Rattle.json.specs.Tree.{depth, items_depth, json_tokens, members_depth}
use Rattle.json_text.specs.Json.{Json, null, truth, whole, other_number, string, list, object, Items, no_items, item, Members, no_members, member}
use Rattle.json_text.specs.Layout.{Layout}
use Rattle.json_text.specs.Text.{text_of}
use Rattle.serde_json.proofs.Numbers.{number_of-decimal, number_of-negative}
use Rattle.serde_json.specs.Data as parsed
use Rattle.serde_json.specs.Read.{max_depth, of_items, of_json, of_members, read}
use Rattle.json_reading.proofs.Lexed.{value_lexed}
use Rattle.json_reading.proofs.Punctuated.{value_punctuated}
use Rattle.json_reading.proofs.Raw.{lexemes, raw, raw_items, raw_members}
use Rattle.json_reading.proofs.Utf8.{value_utf8}
use Rattle.json_reading.specs.Laws.{PrintedValuesAreRead}
use Rattle.json_reading.specs.Parsed.{items_parsed, members_parsed, number_parsed, parsed_as, text_in_units}
use Rattle.json_reading.specs.Readable.{AreReadable, HasBits, HaveReadable, IsReadable, items_nesting, members_nesting, nesting}

-- ---- as deep

mutual
  pub same_depth : (v : Json) → depth (raw v) ≡ nesting v
  same_depth null = refl
  same_depth (truth b) = refl
  same_depth (whole z) = refl
  same_depth other_number = refl
  same_depth (string us) = refl
  same_depth (list xs) = ap suc (same_items_depth xs)
  same_depth (object ms) = ap suc (same_members_depth ms)

  same_items_depth : (xs : Items) → items_depth (raw_items xs) ≡ items_nesting xs
  same_items_depth no_items = refl
  same_items_depth (item x xs) = rw (same_depth x, same_items_depth xs) refl

  same_members_depth : (ms : Members) → members_depth (raw_members ms) ≡ members_nesting ms
  same_members_depth no_members = refl
  same_members_depth (member k x ms) = rw (same_depth x, same_members_depth ms) refl

-- ---- the same values

number_same : (z : _) → HasBits z → of_json (raw (whole z)) ≡ Some (parsed.number (number_parsed z))
number_same (pos n) h = ap (option_map parsed.number) (number_of-decimal n h)
number_same (negsuc n) h = ap (option_map parsed.number) (number_of-negative n h)

mutual
  pub value_same : (v : Json) → IsReadable v → of_json (raw v) ≡ Some (parsed_as v)
  value_same null h = refl
  value_same (truth b) h = refl
  value_same (whole z) h = number_same z h
  value_same other_number h = absurd h
  value_same (string us) h = refl
  value_same (list xs) h = ap (option_map parsed.array) (items_same xs h)
  value_same (object ms) h = ap (option_map parsed.object) (members_same ms parsed.no_members h)

  items_same : (xs : Items) → AreReadable xs → of_items (raw_items xs) ≡ Some (items_parsed xs)
  items_same no_items h = refl
  items_same (item x xs) h =
      ap (option_and_then (λ (d : parsed.Data). option_map (parsed.item d) (of_items (raw_items xs)))) (value_same x h.0)
      ∙ ap (option_map (parsed.item (parsed_as x))) (items_same xs h.1)

  members_same : (ms : Members) (found : parsed.Members) → HaveReadable ms → of_members (raw_members ms) found ≡ Some (members_parsed ms found)
  members_same no_members found h = refl
  members_same (member k x ms) found h =
      ap (option_and_then (λ (d : parsed.Data). of_members (raw_members ms) (parsed.put (text_in_units k) d found))) (value_same x h.1)
      ∙ members_same ms (parsed.put (text_in_units k) (parsed_as x) found) h.2

-- ---- the whole text

-- a text that has the lexemes of a value, and no others
pub lexemes_read : (t : List ℕ) (v : Json) → lex between t ≡ lexemes (raw v) → IsReadable v → nesting v ≤ max_depth → read t ≡ Some (parsed_as v)
unfolding punctuate
lexemes_read t v e h shallow =
    let ts : tokens t ≡ json_tokens (raw v) ++ [] =
    ap (punctuate fresh) (e ∙ sym (append-nil (lexemes (raw v)))) ∙ value_punctuated fresh (raw v) [] refl refl in
    ap (λ (o : Option (json.Json × List Token)). option_and_then of_json (option_and_then (λ p. if_last p.0 p.1) o))
    (ap (value max_depth) ts ∙ value-json_tokens (raw v) max_depth [] (omega (arith, same_depth v, shallow)))
    ∙ value_same v h

pub text_lexed : (l : Layout) (v : Json) → IsReadable v → lex between (text_of l v) ≡ lexemes (raw v)
unfolding lex
text_lexed l v h = ap (lex between) (sym (append-nil (text_of l v))) ∙ value_lexed l v [] h refl ∙ append-nil (lexemes (raw v))

pub text_read : (l : Layout) (v : Json) → IsReadable v → nesting v ≤ max_depth → read (text_of l v) ≡ Some (parsed_as v)
text_read l v h shallow = lexemes_read (text_of l v) v (text_lexed l v h) h shallow

pub printed_values_are_read : PrintedValuesAreRead
printed_values_are_read l v h shallow = (value_utf8 l v h, text_read l v h shallow)
