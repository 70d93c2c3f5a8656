-- Which JSON value a value of `serde_json` is: the one with the same parts, each text as its code units,
-- each float as an other number, each object in the order of its keys.
use Rattle.std.specs.Prelude.{pos}
use Rattle.json_text.specs.Json.{Json, null, truth, whole, other_number, string, list, object, Items, no_items, item, Members, no_members, member}
use Rattle.json_text.specs.Units.{units_of}
use Rattle.serde_json.specs.Data as parsed

abbrev pub number_of : parsed.Num → Json
number_of (parsed.unsigned n) = whole (pos n)
number_of (parsed.negative z) = whole z
number_of (parsed.float x) = other_number

abbrev mutual
  pub json_of : parsed.Data → Json
  json_of parsed.null = null
  json_of (parsed.boolean b) = truth b
  json_of (parsed.number n) = number_of n
  json_of (parsed.string s) = string (units_of s)
  json_of (parsed.array ds) = list (items_of ds)
  json_of (parsed.object ms) = object (members_of ms)

  pub items_of : parsed.Items → Items
  items_of parsed.no_items = no_items
  items_of (parsed.item d ds) = item (json_of d) (items_of ds)

  pub members_of : parsed.Members → Members
  members_of parsed.no_members = no_members
  members_of (parsed.member k d ms) = member (units_of k) (json_of d) (members_of ms)
