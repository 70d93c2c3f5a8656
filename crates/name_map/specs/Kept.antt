-- What a renaming keeps of names and marks, place by place.
use Rattle.std.specs.Prelude.{Bool, true, false, not, ◌&&◌, ◌||◌, List, [], ◌∷◌, bytes_eq, if◌then◌else◌}
use Rattle.name_map.specs.declared.spots.Pair.{Pair}
use Rattle.tree_nodes.specs.Tree.{Text}

-- the names of plain places are the same
unfoldable pub keeps_plain : List Bool → List Text → List Text → Bool
keeps_plain [] xs ys = true
keeps_plain (p ∷ ps) [] ys = true
keeps_plain (p ∷ ps) (x ∷ xs) [] = true
keeps_plain (p ∷ ps) (x ∷ xs) (y ∷ ys) = (not p || bytes_eq x y) && keeps_plain ps xs ys

-- each mark is on where it was on and the names of key and value agree
unfoldable pub keeps_marks : List Bool → List Pair → Bool
keeps_marks [] ps = true
keeps_marks (b ∷ bs) [] = true
keeps_marks (b ∷ bs) (p ∷ ps) = (if b && p.agrees then p.marked else not p.marked) && keeps_marks bs ps
