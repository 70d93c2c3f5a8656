-- The values that have a text: each whole number has at most 64 digits, each string is of code units, and there are no other numbers.
use Rattle.std.specs.Prelude.{◌≡◌, ℕ, suc, ◌<◌, ◌^◌, ℤ, pos, negsuc, List, [], ◌∷◌}
use Rattle.json_text.specs.Json.{Json, null, truth, whole, other_number, string, list, object, Items, no_items, item, Members, no_members, member}
use Rattle.json_text.specs.Layout.{Layout}
use Rattle.json_text.specs.Text.{text_of}
use Rattle.json_text.specs.Grammar.{Reads}

abbrev pub AreCodeUnits : List ℕ → Type 0
AreCodeUnits [] = Unit {0}
AreCodeUnits (u ∷ us) = (u < 65536) × AreCodeUnits us

abbrev pub IsShortNumber : ℤ → Type 0
IsShortNumber (pos n) = n < 10 ^ 64
IsShortNumber (negsuc n) = suc n < 10 ^ 64

abbrev mutual
  pub HasText : Json → Type 0
  HasText null = Unit {0}
  HasText (truth b) = Unit {0}
  HasText (whole n) = IsShortNumber n
  HasText other_number = ⊥
  HasText (string us) = AreCodeUnits us
  HasText (list xs) = ItemsHaveText xs
  HasText (object ms) = MembersHaveText ms

  pub ItemsHaveText : Items → Type 0
  ItemsHaveText no_items = Unit {0}
  ItemsHaveText (item x xs) = HasText x × ItemsHaveText xs

  pub MembersHaveText : Members → Type 0
  MembersHaveText no_members = Unit {0}
  MembersHaveText (member k x ms) = AreCodeUnits k × HasText x × MembersHaveText ms

-- the text of a value reads as it, and as no other value
abbrev pub TextReadsAlone : Type 0
TextReadsAlone = (l : Layout) (v : Json) → HasText v → Reads (text_of l v) v × ((w : Json) → Reads (text_of l v) w → w ≡ v)
