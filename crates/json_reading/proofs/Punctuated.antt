-- The lexemes of a value stand where the grammar of `json` asks them to: they are its tokens.
use Rattle.std.proofs.Common.{◌≡◌, Bool, true, false, cond, List, ◌∷◌, ◌++◌, refl, sym, ap, ◌∙◌, append_assoc}
use Rattle.json.specs.Json.{Json, null, boolean, number, string, array, object, Items, no_items, item, Members, no_members, member}
use Rattle.json.specs.Lex.{Lexeme, Place, after_comma, after_key, after_value, begins_colon, fresh, may_begin, punctuate}
use Rattle.json.specs.Token as tokens
use Rattle.json.specs.Token.{Token}
use Rattle.json.specs.Tree.{items_tokens, json_tokens, members_tokens}
use Rattle.json_reading.proofs.Raw.{item_lexemes, lexemes, member_lexemes}

abbrev place : Bool → Place
place first = cond first fresh after_value

items_no_colon : (js : Items) (ls : List Lexeme) → begins_colon (item_lexemes false js ++ ls) ≡ false
items_no_colon no_items ls = refl
items_no_colon (item j js) ls = refl

members_no_colon : (ms : Members) (ls : List Lexeme) → begins_colon (member_lexemes false ms ++ ls) ≡ false
members_no_colon no_members ls = refl
members_no_colon (member k j ms) ls = refl

-- one more element, which stands before those of m
one_more : (p : Place) (j m ls : List Lexeme) (a b : List Token) → punctuate p (j ++ (m ++ ls)) ≡ a ++ punctuate after_value (m ++ ls)
    → punctuate after_value (m ++ ls) ≡ b ++ punctuate after_value ls → punctuate p ((j ++ m) ++ ls) ≡ (a ++ b) ++ punctuate after_value ls
one_more p j m ls a b value more =
    ap (punctuate p) (append_assoc j m ls) ∙ value ∙ ap (λ (ts : List Token). a ++ ts) more ∙ sym (append_assoc a b (punctuate after_value ls))

mutual
  unfolding punctuate

  pub value_punctuated : (p : Place) (j : Json) (ls : List Lexeme) → may_begin p ≡ true → begins_colon ls ≡ false → punctuate p (lexemes j ++ ls) ≡ json_tokens j ++ punctuate after_value ls
  value_punctuated fresh null ls b n = refl
  value_punctuated after_comma null ls b n = refl
  value_punctuated fresh (boolean x) ls b n = refl
  value_punctuated after_comma (boolean x) ls b n = refl
  value_punctuated fresh (number s) ls b n = refl
  value_punctuated after_comma (number s) ls b n = refl
  value_punctuated fresh (string s) ls b n = rw n refl
  value_punctuated after_comma (string s) ls b n = rw n refl
  value_punctuated fresh (array js) ls b n = ap (λ (ts : List Token). tokens.begin_array ∷ ts) (items_punctuated true js ls)
  value_punctuated after_comma (array js) ls b n = ap (λ (ts : List Token). tokens.begin_array ∷ ts) (items_punctuated true js ls)
  value_punctuated fresh (object ms) ls b n = ap (λ (ts : List Token). tokens.begin_object ∷ ts) (members_punctuated true ms ls)
  value_punctuated after_comma (object ms) ls b n = ap (λ (ts : List Token). tokens.begin_object ∷ ts) (members_punctuated true ms ls)
  value_punctuated after_value j ls b n = absurd (cc)
  value_punctuated after_key j ls b n = absurd (cc)

  items_punctuated : (first : Bool) (js : Items) (ls : List Lexeme) → punctuate (place first) (item_lexemes first js ++ ls) ≡ items_tokens js ++ punctuate after_value ls
  items_punctuated true no_items ls = refl
  items_punctuated false no_items ls = refl
  items_punctuated true (item j js) ls =
      one_more fresh (lexemes j) (item_lexemes false js) ls (json_tokens j) (items_tokens js)
      (value_punctuated fresh j (item_lexemes false js ++ ls) refl (items_no_colon js ls)) (items_punctuated false js ls)
  items_punctuated false (item j js) ls =
      one_more after_comma (lexemes j) (item_lexemes false js) ls (json_tokens j) (items_tokens js)
      (value_punctuated after_comma j (item_lexemes false js ++ ls) refl (items_no_colon js ls)) (items_punctuated false js ls)

  members_punctuated : (first : Bool) (ms : Members) (ls : List Lexeme) → punctuate (place first) (member_lexemes first ms ++ ls) ≡ members_tokens ms ++ punctuate after_value ls
  members_punctuated true no_members ls = refl
  members_punctuated false no_members ls = refl
  members_punctuated true (member k j ms) ls =
      ap (λ (ts : List Token). tokens.key k ∷ ts) (one_more fresh (lexemes j) (member_lexemes false ms) ls (json_tokens j) (members_tokens ms)
      (value_punctuated fresh j (member_lexemes false ms ++ ls) refl (members_no_colon ms ls)) (members_punctuated false ms ls))
  members_punctuated false (member k j ms) ls =
      ap (λ (ts : List Token). tokens.key k ∷ ts) (one_more fresh (lexemes j) (member_lexemes false ms) ls (json_tokens j) (members_tokens ms)
      (value_punctuated fresh j (member_lexemes false ms ++ ls) refl (members_no_colon ms ls)) (members_punctuated false ms ls))
