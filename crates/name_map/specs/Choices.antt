-- The names of a list as choices among its texts.
use Rattle.std.specs.Prelude.{ℕ, suc, List, [], ◌∷◌, Option, Some, slice_set}
use Rattle.name_map.specs.Undoing.{OldName}

-- choices, with those of the names that are the k-th and those after it
unfoldable pub choose : ℕ → List OldName → List (Option ℕ) → List (Option ℕ)
choose k [] cs = cs
choose k (o ∷ os) cs = choose (suc k) os (slice_set cs o.place (Some k))
