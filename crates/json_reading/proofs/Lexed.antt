-- The lexemes in the text of a value, in any layout.
use Rattle.std.proofs.Common.{◌≡◌, ℕ, zero, suc, ◌*◌, pos, negsuc, List, [], ◌∷◌, ◌++◌, Bool, true, false, cond, replicate, refl, ap, ap₂, ◌∙◌, append_assoc}
use Rattle.std.specs.Fmt.{signed_decimal}
use Rattle.json.proofs.Printed.Decimals.{IsNumber-decimal, IsNumber-signed_decimal}
use Rattle.json.proofs.Printed.Numbers.{in_word-ended, lex-number}
use Rattle.json.proofs.Printed.Strings.{content-escape, lex-escape}
use Rattle.json.specs.Lex.{Lexeme, between, colon, comma, lex, string_token, token}
use Rattle.json.specs.Print.{IsNumber, escape}
use Rattle.json.specs.Token.{bad}
use Rattle.json.specs.Token as tokens
use Rattle.json.specs.Word.{ends_word, word}
use Rattle.json_text.specs.Json.{Json, null, truth, whole, other_number, string, list, object, Items, no_items, item, Members, no_members, member}
use Rattle.json_text.specs.Layout.{Layout, compact, deeper, new_line, pretty, space}
use Rattle.json_text.specs.Strings.{quoted_units}
use Rattle.json_text.specs.Text.{before, closing, items_text, members_text, text_of}
use Rattle.json_reading.proofs.Raw.{comma_later, item_lexemes, lexemes, member_lexemes, raw, raw_items, raw_members}
use Rattle.json_reading.proofs.Strings.{quoted_alike}
use Rattle.json_reading.specs.Parsed.{text_in_units}
use Rattle.json_reading.specs.Readable.{AreReadable, HasBits, HaveReadable, IsReadable, are_paired}

-- ---- white space

spaces_lexed : (n : ℕ) (r : List ℕ) → lex between (replicate n 32 ++ r) ≡ lex between r
unfolding lex
spaces_lexed zero r = refl
spaces_lexed (suc n) r = spaces_lexed n r

line_lexed : (l : Layout) (r : List ℕ) → lex between (new_line l ++ r) ≡ lex between r
unfolding lex
line_lexed compact r = refl
line_lexed (pretty n) r = spaces_lexed (2 * n) r

space_lexed : (l : Layout) (r : List ℕ) → lex between (space l ++ r) ≡ lex between r
unfolding lex
space_lexed compact r = refl
space_lexed (pretty n) r = refl

closing_lexed : (first : Bool) (l : Layout) (r : List ℕ) → lex between (closing first l ++ r) ≡ lex between r
closing_lexed true l r = refl
closing_lexed false l r = line_lexed l r

before_lexed : (first : Bool) (l : Layout) (r : List ℕ) → lex between (before first l ++ r) ≡ comma_later first ++ lex between r
unfolding lex
before_lexed true l r = line_lexed l r
before_lexed false l r = ap (λ (ls : List Lexeme). comma ∷ ls) (line_lexed l r)

-- ---- what follows a value ends it

line_ends : (l : Layout) (c : ℕ) (r : List ℕ) → ends_word (c ∷ r) ≡ true → ends_word (new_line l ++ (c ∷ r)) ≡ true
line_ends compact c r e = e
line_ends (pretty n) c r e = refl

items_end : (l : Layout) (xs : Items) (r : List ℕ) → ends_word (items_text false l xs ++ (93 ∷ r)) ≡ true
items_end l no_items r = line_ends l 93 r refl
items_end l (item x xs) r = refl

members_end : (l : Layout) (ms : Members) (r : List ℕ) → ends_word (members_text false l ms ++ (125 ∷ r)) ≡ true
members_end l no_members r = line_ends l 125 r refl
members_end l (member k x ms) r = refl

-- ---- strings and numbers

pub string_lexed : (us r : List ℕ) → are_paired us ≡ true → lex between (quoted_units us ++ r) ≡ token (tokens.string (text_in_units us)) ∷ lex between r
unfolding lex
string_lexed us r h =
    let s : List ℕ = text_in_units us in
    ap (λ (t : List ℕ). lex between (t ++ r)) (quoted_alike us h)
    ∙ ap (λ (t : List ℕ). lex between (34 ∷ t)) (append_assoc (escape s) (34 ∷ []) r)
    ∙ ap₂ (λ o (ls : List Lexeme). token (string_token o) ∷ ls) (content-escape s r) (lex-escape s r)

pub number_is : (z : _) → HasBits z → IsNumber (signed_decimal z)
number_is (pos n) h = IsNumber-decimal n h
number_is (negsuc n) h = IsNumber-signed_decimal (negsuc n) h

-- ---- the texts of elements, one after the other

regroup : (b t m r : List ℕ) → (b ++ (t ++ m)) ++ r ≡ b ++ (t ++ (m ++ r))
regroup b t m r = simp append_assoc

regroup_key : (b q s t m r : List ℕ) → (b ++ ((q ++ 58 ∷ s) ++ (t ++ m))) ++ r ≡ b ++ (q ++ (58 ∷ (s ++ (t ++ (m ++ r)))))
regroup_key b q s t m r = simp append_assoc

bracket : (t r : List ℕ) (b : ℕ) → (t ++ b ∷ []) ++ r ≡ t ++ (b ∷ r)
bracket t r b = append_assoc t (b ∷ []) r

regroup_lexemes : (c j m r : List Lexeme) → c ++ (j ++ (m ++ r)) ≡ (c ++ (j ++ m)) ++ r
regroup_lexemes c j m r = simp append_assoc

mutual
  unfolding lex word

  pub value_lexed : (l : Layout) (v : Json) (r : List ℕ) → IsReadable v → ends_word r ≡ true → lex between (text_of l v ++ r) ≡ lexemes (raw v) ++ lex between r
  value_lexed l null r h ended = ap₂ (λ b (ls : List Lexeme). token (cond b tokens.null bad) ∷ ls) ended (in_word-ended r ended)
  value_lexed l (truth true) r h ended = ap₂ (λ b (ls : List Lexeme). token (cond b (tokens.boolean true) bad) ∷ ls) ended (in_word-ended r ended)
  value_lexed l (truth false) r h ended = ap₂ (λ b (ls : List Lexeme). token (cond b (tokens.boolean false) bad) ∷ ls) ended (in_word-ended r ended)
  value_lexed l (whole z) r h ended = lex-number (signed_decimal z) r (number_is z h) ended
  value_lexed l other_number r h ended = absurd h
  value_lexed l (string us) r h ended = string_lexed us r h
  value_lexed l (list xs) r h ended =
      ap (λ (t : List ℕ). lex between (91 ∷ t)) (bracket (items_text true l xs) r 93) ∙ ap (λ (ls : List Lexeme). token tokens.begin_array ∷ ls) (items_lexed true l xs r h)
  value_lexed l (object ms) r h ended =
      ap (λ (t : List ℕ). lex between (123 ∷ t)) (bracket (members_text true l ms) r 125) ∙ ap (λ (ls : List Lexeme). token tokens.begin_object ∷ ls) (members_lexed true l ms r h)

  items_lexed : (first : Bool) (l : Layout) (xs : Items) (r : List ℕ) → AreReadable xs → lex between (items_text first l xs ++ (93 ∷ r)) ≡ item_lexemes first (raw_items xs) ++ lex between r
  items_lexed first l no_items r h = closing_lexed first l (93 ∷ r)
  items_lexed first l (item x xs) r h =
      let rest : List ℕ = items_text false l xs ++ (93 ∷ r) in
      ap (lex between) (regroup (before first (deeper l)) (text_of (deeper l) x) (items_text false l xs) (93 ∷ r))
      ∙ before_lexed first (deeper l) (text_of (deeper l) x ++ rest)
      ∙ ap (λ (ls : List Lexeme). comma_later first ++ ls) (value_lexed (deeper l) x rest h.0 (items_end l xs r)
      ∙ ap (λ (ls : List Lexeme). lexemes (raw x) ++ ls) (items_lexed false l xs r h.1))
      ∙ regroup_lexemes (comma_later first) (lexemes (raw x)) (item_lexemes false (raw_items xs)) (lex between r)

  members_lexed : (first : Bool) (l : Layout) (ms : Members) (r : List ℕ) → HaveReadable ms → lex between (members_text first l ms ++ (125 ∷ r)) ≡ member_lexemes first (raw_members ms) ++ lex between r
  members_lexed first l no_members r h = closing_lexed first l (125 ∷ r)
  members_lexed first l (member k x ms) r h =
      let rest : List ℕ = members_text false l ms ++ (125 ∷ r) in
      let value : List ℕ = text_of (deeper l) x ++ rest in
      let key : List Lexeme = token (tokens.string (text_in_units k)) ∷ colon ∷ [] in
      ap (lex between) (regroup_key (before first (deeper l)) (quoted_units k) (space (deeper l)) (text_of (deeper l) x) (members_text false l ms) (125 ∷ r))
      ∙ before_lexed first (deeper l) (quoted_units k ++ (58 ∷ (space (deeper l) ++ value)))
      ∙ ap (λ (ls : List Lexeme). comma_later first ++ ls) (string_lexed k (58 ∷ (space (deeper l) ++ value)) h.0
      ∙ ap (λ (ls : List Lexeme). key ++ ls) (space_lexed (deeper l) value ∙ value_lexed (deeper l) x rest h.1 (members_end l ms r)
      ∙ ap (λ (ls : List Lexeme). lexemes (raw x) ++ ls) (members_lexed false l ms r h.2)))
      ∙ regroup_lexemes (comma_later first) (key ++ lexemes (raw x)) (member_lexemes false (raw_members ms)) (lex between r)
