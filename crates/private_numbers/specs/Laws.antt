-- The law on the numbers of private names.
use Rattle.std.specs.Prelude.{◌≡◌, ℕ, List, Some}
use Rattle.std.specs.List.{Contains}
use Rattle.name_rules.specs.PrivateLaws.{IsClosedAround}
use Rattle.tree_nodes.specs.Tree.{Parts}
use Rattle.tree_places.specs.Places.{Place, places}
use Rattle.private_numbers.specs.Numbers.{class_number}

-- of the class bodies around a place, those that aren't open: one number is one class and one name
abbrev pub ClassNumbersDiffer : Type 0
ClassNumbersDiffer = (t : Parts) (p : Place) → Contains (places t) p → (c d : ℕ) (outside_c outside_d : List ℕ) → IsClosedAround t p c outside_c → IsClosedAround t p d outside_d
    → (i j k : ℕ) → class_number (places t) outside_c c i ≡ Some k → class_number (places t) outside_d d j ≡ Some k → (c ≡ d) × (i ≡ j)
