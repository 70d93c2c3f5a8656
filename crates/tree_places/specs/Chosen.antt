-- Which new name each place of a tree gets. A choice is the number of a name among those that are given, or none.
use Rattle.std.specs.Prelude.{ℕ, Bool, true, not, ◌&&◌, ◌||◌, List, [], ◌∷◌, Option, Some, None, is_some, drop, slice_get}
use Rattle.tree_nodes.specs.Tree.{Text}
use Rattle.tree_places.specs.Places.{Site}
use Rattle.tree_places.specs.Renaming.{is_plain}

-- the name that the first of these choices gives
unfoldable pub given_name : List Text → List (Option ℕ) → Option Text
given_name given [] = None
given_name given (None ∷ cs) = None
given_name given (Some i ∷ cs) = slice_get given i

unfoldable pub or_own : Option Text → Text → Text
or_own None x = x
or_own (Some y) x = y

-- names after these choices, one each: the name that is given, or its own
unfoldable pub chosen : List Text → List (Option ℕ) → List Text → List Text
chosen given cs [] = []
chosen given cs (x ∷ xs) = or_own (given_name given cs) x ∷ chosen given (drop 1 cs) xs

-- no plain name gets a new one
unfoldable pub spare_plain : List Site → List (Option ℕ) → Bool
spare_plain ss [] = true
spare_plain [] (c ∷ cs) = true
spare_plain (s ∷ ss) (c ∷ cs) = (not (is_plain s) || not (is_some c)) && spare_plain ss cs
