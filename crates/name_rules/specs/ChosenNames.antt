-- The new names as choices: of each place the number of its name among the names of the slots, and behind them the short names of private numbers.
use Rattle.std.specs.List.{AllByRecursion}
use Rattle.std.specs.Prelude.{◌≡◌, ◌<◌, ℕ, ◌+◌, List, [], ◌∷◌, ◌++◌, map, Option, Some, None, IfSome, IsTrue, if◌then◌else◌}
use Rattle.name_rules.specs.GivenNames.{count_from, names_of_slots}
use Rattle.name_rules.specs.Options.{Options}
use Rattle.name_rules.specs.PrivateNumbers.{new_names, private_number}
use Rattle.name_rules.specs.ShortNames.{short}
use Rattle.name_rules.specs.SlotNames.{slot_in}
use Rattle.name_rules.specs.Slots.{number_of_slots, slots_of}
use Rattle.tree_nodes.specs.Tree.{Parts, Text}
use Rattle.tree_places.specs.Chosen.{chosen, spare_plain}
use Rattle.tree_places.specs.Places.{Place, names, places, sites}

-- the private number of a place, if it is a private name and has one
unfoldable pub place_number : List Place → Place → Option ℕ
place_number ps p = if p.site.private then private_number ps p.name p.site.setting.classes else None

-- the name of a place: that of its slot, or, behind the `first` names of slots, that of its private number
unfoldable pub choice_of : (first : ℕ) → (slot number : Option ℕ) → Option ℕ
choice_of first slot None = slot
choice_of first slot (Some n) = Some (first + n)

unfoldable pub choices_of : (first : ℕ) → (slots numbers : List (Option ℕ)) → List (Option ℕ)
choices_of first [] numbers = []
choices_of first (s ∷ ss) [] = []
choices_of first (s ∷ ss) (n ∷ ns) = choice_of first s n ∷ choices_of first ss ns

-- each number is below this one
abbrev pub AreBelow : ℕ → List (Option ℕ) → Type 0
AreBelow limit ns = AllByRecursion (λ o. IfSome o (λ n. n < limit)) ns

-- these choices among these names give a tree's places their new names, and none to a plain name
pub record AreChosen (o : Options) (t : Parts) (cs : List (Option ℕ)) (given : List Text) : Type 0 where
  pub chosen : chosen given cs (names t) ≡ new_names o t
  pub spare : IsTrue (spare_plain (sites t) cs)

-- so do the slots and the private numbers of the places, where all numbers are below a limit
abbrev pub ChosenNamesAreNew : Type 0
ChosenNamesAreNew = (o : Options) (t : Parts) (limit : ℕ) → AreBelow limit (map (place_number (places t)) (places t))
    → AreChosen o t (choices_of (number_of_slots (slots_of o t)) (map (slot_in o t) (places t)) (map (place_number (places t)) (places t)))
    (names_of_slots o t ++ map short (count_from limit 0))
