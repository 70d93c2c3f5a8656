-- The names of places that keep theirs, and what a guard with names refuses.
use Rattle.std.specs.Prelude.{◌≡◌, Bool, not, ◌&&◌, ◌||◌, List, [], ◌∷◌, Option, ℕ, is_some, if◌then◌else◌}
use Rattle.scope_rules.specs.Homes.{declares, refers}
use Rattle.scope_rules.specs.PrivateNames.{is_among}
use Rattle.tree_nodes.specs.Tree.{Text}
use Rattle.tree_places.specs.Places.{Place, Site}

-- a variable place that is in no group keeps its name
unfoldable pub keeps_name : Site → Option ℕ → Bool
keeps_name s group = (declares s || refers s) && not (is_some group)

-- the names of the places that do, by their groups
unfoldable pub staying_names : List Place → List (Option ℕ) → List Text
staying_names [] gs = []
staying_names (p ∷ ps) [] = []
staying_names (p ∷ ps) (g ∷ gs) = if keeps_name p.site g then p.name ∷ staying_names ps gs else staying_names ps gs

-- the new names are the old ones and these
abbrev pub HasAll : (old added new : List Text) → Type 0
HasAll old added new = (x : Text) → is_among new x ≡ (is_among added x || is_among old x)
