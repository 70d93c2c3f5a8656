-- A value as the grammar of `json` has it, and its lexemes.
use Rattle.std.proofs.Common.{List, [], ◌∷◌, ◌++◌, Bool, true, false, cond}
use Rattle.std.specs.Fmt.{signed_decimal}
use Rattle.json.specs.Json as json
use Rattle.json.specs.Lex.{Lexeme, colon, comma, token}
use Rattle.json.specs.Token.{begin_array, begin_object, end_array, end_object}
use Rattle.json.specs.Token as tokens
use Rattle.json_text.specs.Json.{Json, null, truth, whole, other_number, string, list, object, Items, no_items, item, Members, no_members, member}
use Rattle.json_reading.specs.Parsed.{text_in_units}

abbrev mutual
  pub raw : Json → json.Json
  raw null = json.null
  raw (truth b) = json.boolean b
  raw (whole z) = json.number (signed_decimal z)
  raw other_number = json.null
  raw (string us) = json.string (text_in_units us)
  raw (list xs) = json.array (raw_items xs)
  raw (object ms) = json.object (raw_members ms)

  pub raw_items : Items → json.Items
  raw_items no_items = json.no_items
  raw_items (item x xs) = json.item (raw x) (raw_items xs)

  pub raw_members : Members → json.Members
  raw_members no_members = json.no_members
  raw_members (member k x ms) = json.member (text_in_units k) (raw x) (raw_members ms)

-- nothing before the first element, and a comma before a later one
abbrev pub comma_later : Bool → List Lexeme
comma_later first = cond first [] (comma ∷ [])

abbrev mutual
  pub lexemes : json.Json → List Lexeme
  lexemes json.null = token tokens.null ∷ []
  lexemes (json.boolean b) = token (tokens.boolean b) ∷ []
  lexemes (json.number s) = token (tokens.number s) ∷ []
  lexemes (json.string s) = token (tokens.string s) ∷ []
  lexemes (json.array js) = token begin_array ∷ item_lexemes true js
  lexemes (json.object ms) = token begin_object ∷ member_lexemes true ms

  -- with the closing bracket
  pub item_lexemes : Bool → json.Items → List Lexeme
  item_lexemes first json.no_items = token end_array ∷ []
  item_lexemes first (json.item j js) = comma_later first ++ (lexemes j ++ item_lexemes false js)

  pub member_lexemes : Bool → json.Members → List Lexeme
  member_lexemes first json.no_members = token end_object ∷ []
  member_lexemes first (json.member k j ms) = comma_later first ++ (token (tokens.string k) ∷ colon ∷ (lexemes j ++ member_lexemes false ms))
