-- The values whose text `serde_json` reads: those in which no surrogate stands alone, whose numbers have 64 bits, and which nest at most 127 deep.
use Rattle.std.specs.Prelude.{◌≡◌, ℕ, suc, ◌<◌, ◌^◌, ℤ, pos, negsuc, max, List, Bool, true, false, not, ◌&&◌}
use Rattle.std.specs.Char.Utf16.{has_unpaired_surrogate}
use Rattle.json_text.specs.Json.{Json, null, truth, whole, other_number, string, list, object, Items, no_items, item, Members, no_members, member}
use Rattle.json_text.specs.Units.{are_code_units}

-- code units in which no surrogate stands alone
abbrev pub are_paired : List ℕ → Bool
are_paired us = are_code_units us && not (has_unpaired_surrogate us)

-- an unsigned or a signed number of 64 bits
abbrev pub HasBits : ℤ → Type 0
HasBits (pos n) = n < 2 ^ 64
HasBits (negsuc n) = n < 2 ^ 63

abbrev mutual
  pub IsReadable : Json → Type 0
  IsReadable null = Unit {0}
  IsReadable (truth b) = Unit {0}
  IsReadable (whole z) = HasBits z
  IsReadable other_number = ⊥
  IsReadable (string us) = are_paired us ≡ true
  IsReadable (list xs) = AreReadable xs
  IsReadable (object ms) = HaveReadable ms

  pub AreReadable : Items → Type 0
  AreReadable no_items = Unit {0}
  AreReadable (item x xs) = IsReadable x × AreReadable xs

  pub HaveReadable : Members → Type 0
  HaveReadable no_members = Unit {0}
  HaveReadable (member k x ms) = (are_paired k ≡ true) × IsReadable x × HaveReadable ms

-- how deep lists and objects nest
abbrev mutual
  pub nesting : Json → ℕ
  nesting null = 0
  nesting (truth b) = 0
  nesting (whole z) = 0
  nesting other_number = 0
  nesting (string us) = 0
  nesting (list xs) = suc (items_nesting xs)
  nesting (object ms) = suc (members_nesting ms)

  pub items_nesting : Items → ℕ
  items_nesting no_items = 0
  items_nesting (item x xs) = max (nesting x) (items_nesting xs)

  pub members_nesting : Members → ℕ
  members_nesting no_members = 0
  members_nesting (member k x ms) = max (nesting x) (members_nesting ms)

-- no surrogate stands alone in a string or a key
abbrev mutual
  pub HasNoLone : Json → Type 0
  HasNoLone null = Unit {0}
  HasNoLone (truth b) = Unit {0}
  HasNoLone (whole z) = Unit {0}
  HasNoLone other_number = Unit {0}
  HasNoLone (string us) = has_unpaired_surrogate us ≡ false
  HasNoLone (list xs) = LackLone xs
  HasNoLone (object ms) = HaveNoLone ms

  pub LackLone : Items → Type 0
  LackLone no_items = Unit {0}
  LackLone (item x xs) = HasNoLone x × LackLone xs

  pub HaveNoLone : Members → Type 0
  HaveNoLone no_members = Unit {0}
  HaveNoLone (member k x ms) = (has_unpaired_surrogate k ≡ false) × HasNoLone x × HaveNoLone ms
