-- The map that a JSON value is.
use Rattle.std.specs.Prelude.{ℕ, ◌^◌, ◌&&◌, List, [], ◌∷◌, codes, if◌then◌else◌, Option, Some, None, option_map, option_and_then}
use Rattle.json_text.specs.Json.{Json, object, list, Items, no_items, item}
use Rattle.name_map.specs.Undoing.{OldName, Undoing, old_name, undoing}
use Rattle.tree_core.specs.Reading.{are_distinct, below, find_member, has_only, text_in}

-- a pair of a number of 32 bits and a text
abbrev pub old_name_in : Json → Option OldName
old_name_in (list (item n (item x no_items))) = option_and_then (λ i. option_map (λ y. old_name i y) (text_in x)) (below (2 ^ 32) n)
old_name_in _ = None

abbrev pub old_names_in : Items → Option (List OldName)
old_names_in no_items = Some []
old_names_in (item d ds) = option_and_then (λ o. option_map (λ os. o ∷ os) (old_names_in ds)) (old_name_in d)

abbrev pub numbers_in : Items → Option (List ℕ)
numbers_in no_items = Some []
numbers_in (item d ds) = option_and_then (λ i. option_map (λ is. i ∷ is) (numbers_in ds)) (below (2 ^ 32) d)

abbrev pub names_under : Option Json → Option (List OldName)
names_under (Some (list ds)) = old_names_in ds
names_under _ = None

abbrev pub marks_under : Option Json → Option (List ℕ)
marks_under (Some (list ds)) = numbers_in ds
marks_under _ = None

-- an object of exactly `names`, a list of such pairs, and `marks`, a list of such numbers
abbrev pub map_of : Json → Option Undoing
map_of (object ms) =
    if are_distinct ms && has_only (codes "names") (codes "marks") ms
    then option_and_then (λ xs. option_map (λ is. undoing xs is) (marks_under (find_member (codes "marks") ms))) (names_under (find_member (codes "names") ms))
    else None
map_of _ = None
