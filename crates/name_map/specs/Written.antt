-- The value of a map, and the laws that it reads as the map.
use Rattle.std.specs.Prelude.{◌≡◌, ℕ, pos, List, [], ◌∷◌, Some, codes}
use Rattle.std.specs.List.{AllByRecursion}
use Rattle.json_text.specs.Grammar.{Reads}
use Rattle.json_text.specs.Json.{Json, whole as number, string, list, object, Items, no_items, item, no_members, member}
use Rattle.json_text.specs.Layout.{Layout}
use Rattle.json_text.specs.Text.{text_of}
use Rattle.json_text.specs.Units.{units_of}
use Rattle.name_map.specs.Reading.{map_of}
use Rattle.name_map.specs.Undoing.{IsOldName, IsSized, OldName, Undoing}

abbrev pub old_name_value : OldName → Json
old_name_value o = list (item (number (pos o.place)) (item (string (units_of o.name)) no_items))

abbrev pub old_names_value : List OldName → Items
old_names_value [] = no_items
old_names_value (o ∷ os) = item (old_name_value o) (old_names_value os)

abbrev pub numbers_value : List ℕ → Items
numbers_value [] = no_items
numbers_value (i ∷ is) = item (number (pos i)) (numbers_value is)

-- an object of exactly the old names and the marks
abbrev pub map_value : Undoing → Json
map_value m = object (member (codes "names") (list (old_names_value m.names)) (member (codes "marks") (list (numbers_value m.marks)) no_members))

-- as one that stands in memory: its numbers have 32 bits, and its names are in UTF-8
pub record IsMap (m : Undoing) : Type 0 where
  pub names : AllByRecursion IsOldName m.names
  pub marks : AllByRecursion IsSized m.marks

-- the value of a map reads as the map
abbrev pub MapsReadBack : Type 0
MapsReadBack = (m : Undoing) → IsMap m → map_of (map_value m) ≡ Some m

-- and so does its text in each layout, by the grammar of JSON
abbrev pub MapTextsRead : Type 0
MapTextsRead = (l : Layout) (m : Undoing) → IsMap m
    → Reads (text_of l (map_value m)) (map_value m) × ((w : Json) → Reads (text_of l (map_value m)) w → map_of w ≡ Some m)
