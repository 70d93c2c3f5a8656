-- The names that are given (after oxc_mangler).
use Rattle.std.specs.Prelude.{ℕ, zero, suc, ◌+◌, Bool, ◌&&◌, ◌||◌, nat_eq, nat_lt, List, [], ◌∷◌, map, length, Some, None, get_or, filter}
use Rattle.name_rules.specs.FreeNames.{first_untaken, is_taken}
use Rattle.name_rules.specs.Groups.{Member, members}
use Rattle.name_rules.specs.Options.{Options}
use Rattle.name_rules.specs.ShortNames.{candidate}
use Rattle.name_rules.specs.Slots.{Slotted, number_of_slots, slot_of, slots_of, weight}
use Rattle.tree_nodes.specs.Tree.{Parts, Text}

unfoldable pub count_from : ℕ → ℕ → List ℕ
count_from zero k = []
count_from (suc n) k = k ∷ count_from n (suc k)

-- slot j stands before slot k: it has more references, or as many and is lower
unfoldable pub is_before : List ℕ → ℕ → ℕ → Bool
is_before weights j k = nat_lt (get_or weights k 0) (get_or weights j 0) || nat_eq (get_or weights j 0) (get_or weights k 0) && nat_lt j k

-- the name of slot k, where these slots get names of these sizes: of the names of its size that which stands where k does among the slots of its size
unfoldable pub slot_name : List Text → List ℕ → List ℕ → ℕ → Text
slot_name names sizes slots k =
    let alike : List ℕ = filter (λ j. nat_lt j k && nat_eq (get_or sizes j 0) (get_or sizes k 0)) slots in
    get_or (filter (λ x. nat_eq (length x) (get_or sizes k 0)) names) (length alike) []

-- the names that slots of these weights get, from slot 0 on: the earlier of two slots gets a name that isn't longer, and slots whose names are of one length get these by rising slot
unfoldable pub slot_names : List Text → List ℕ → List Text
slot_names names weights =
    let slots : List ℕ = count_from (length weights) 0 in
    let ranks : List ℕ = map (λ k. length (filter (λ j. is_before weights j k) slots)) slots in
    let sizes : List ℕ = map (λ r. length (get_or names r [])) ranks in
    map (slot_name names sizes slots) slots

-- the first n candidates that are free
unfoldable pub free_names : Options → List Member → ℕ → List Text
free_names o ms n = first_untaken (candidate o.readable) (is_taken o ms) (n + 48 + length o.reserved + length ms) n 0

-- the names of a tree's slots
unfoldable pub names_of_slots : Options → Parts → List Text
names_of_slots o t =
    let ms : List Member = members o t in
    let bs : List Slotted = slots_of o t in
    let n : ℕ = number_of_slots bs in
    slot_names (free_names o ms n) (map (weight ms bs) (count_from n 0))

-- what a place is called: as its slot, where it has one
unfoldable pub new_name : List Slotted → List Text → Member → Text
new_name bs names m = elim (slot_of bs m.group) [ None ↦ m.place.name | Some k ↦ get_or names k [] ]

-- the new names of all places of a tree in printing order, private ones aside
unfoldable pub given_names : Options → Parts → List Text
given_names o t = map (new_name (slots_of o t) (names_of_slots o t)) (members o t)
