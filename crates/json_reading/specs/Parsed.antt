-- What `serde_json` makes of a value: texts in place of code units, and the members of each object put in one after the other.
use Rattle.std.specs.Prelude.{ℕ, ℤ, pos, negsuc, List}
use Rattle.std.specs.Char.Utf16.{utf16_chars}
use Rattle.json_text.specs.Json.{Json, null, truth, whole, other_number, string, list, object, Items, no_items, item, Members, no_members, member}
use Rattle.json_text.specs.Units.{bytes_of}
use Rattle.serde_json.specs.Data as parsed

-- the text of code units in which no surrogate stands alone
abbrev pub text_in_units : List ℕ → List ℕ
text_in_units us = bytes_of (utf16_chars us)

abbrev pub number_parsed : ℤ → parsed.Num
number_parsed (pos n) = parsed.unsigned n
number_parsed (negsuc n) = parsed.negative (negsuc n)

abbrev mutual
  pub parsed_as : Json → parsed.Data
  parsed_as null = parsed.null
  parsed_as (truth b) = parsed.boolean b
  parsed_as (whole z) = parsed.number (number_parsed z)
  parsed_as other_number = parsed.null
  parsed_as (string us) = parsed.string (text_in_units us)
  parsed_as (list xs) = parsed.array (items_parsed xs)
  parsed_as (object ms) = parsed.object (members_parsed ms parsed.no_members)

  pub items_parsed : Items → parsed.Items
  items_parsed no_items = parsed.no_items
  items_parsed (item x xs) = parsed.item (parsed_as x) (items_parsed xs)

  -- after those that were found before
  pub members_parsed : Members → parsed.Members → parsed.Members
  members_parsed no_members found = found
  members_parsed (member k x ms) found = members_parsed ms (parsed.put (text_in_units k) (parsed_as x) found)
