-- What is too large to be read: too many objects, too long an array, a text or a key.
use Rattle.std.specs.Prelude.{ℕ, ◌+◌, ◌^◌, Bool, false, ◌||◌, List, length, nat_le}
use Rattle.serde_json.specs.Data.{Data, null, boolean, number, string, array, object, Items, no_items, item, Members, no_members, member}
use Rattle.serde_json.specs.Events.{items_len}

-- how many objects a value has, itself included
abbrev mutual
  pub objects_in : Data → ℕ
  objects_in null = 0
  objects_in (boolean b) = 0
  objects_in (number n) = 0
  objects_in (string s) = 0
  objects_in (array ds) = objects_in_items ds
  objects_in (object ms) = objects_in_members ms + 1

  pub objects_in_items : Items → ℕ
  objects_in_items no_items = 0
  objects_in_items (item d ds) = objects_in d + objects_in_items ds

  pub objects_in_members : Members → ℕ
  objects_in_members no_members = 0
  objects_in_members (member k d ms) = objects_in d + objects_in_members ms

-- a text has more bytes than a 32-bit number counts
abbrev pub is_long_text : List ℕ → Bool
is_long_text s = nat_le (2 ^ 32) (length s)

abbrev pub is_long_array : Items → Bool
is_long_array ds = nat_le (2 ^ 30) (items_len ds)

-- an array, a text or a key in the value is too long
abbrev mutual
  pub has_long_part : Data → Bool
  has_long_part null = false
  has_long_part (boolean b) = false
  has_long_part (number n) = false
  has_long_part (string s) = is_long_text s
  has_long_part (array ds) = is_long_array ds || has_long_item ds
  has_long_part (object ms) = has_long_member ms

  pub has_long_item : Items → Bool
  has_long_item no_items = false
  has_long_item (item d ds) = has_long_part d || has_long_item ds

  pub has_long_member : Members → Bool
  has_long_member no_members = false
  has_long_member (member k d ms) = is_long_text k || has_long_part d || has_long_member ms

-- the objects, with `more` that are to be counted beside them, reach 2^30, or a part is too long
unfoldable pub is_too_large : Data → ℕ → Bool
is_too_large d more = nat_le (2 ^ 30) (objects_in d + more) || has_long_part d
