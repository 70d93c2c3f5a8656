-- Marks on scopes, a list of truths for each slot.
use Rattle.std.specs.Prelude.{◌≡◌, ◌<◌, ◌≤◌, ℕ, Bool, true, false, nat_lt, List, [], ◌∷◌, ◌++◌, length, map, replicate, get_or, slice_set, Option, if◌then◌else◌}
use Rattle.place_list.specs.Tables.{list_at}
use Rattle.scope_marks.specs.Marks.{mark_each}
use Rattle.tree_places.specs.Scopes.{Scope}

-- the marks of slots up to this one, with none yet at a new one
unfoldable pub reached : List (List Bool) → (slot scopes : ℕ) → List (List Bool)
reached marks slot n = if nat_lt slot (length marks) then marks else marks ++ replicate n false ∷ []

-- the marks of a group: at its home, and from each of its places outwards
unfoldable pub mark_group : List Scope → List Bool → (home : ℕ) → (places : List (Option ℕ)) → List Bool
mark_group ss bits home ps = mark_each (slice_set bits home true) (map (list_at ss) ps)

-- a slot is given to a group: the first from `from` on whose marks lack the home; the group is marked there, among n scopes
pub record IsGiven (ss : List Scope) (n : ℕ) (old : List (List Bool)) (from home : ℕ) (places : List (Option ℕ)) (slot : ℕ) (new : List (List Bool)) : Type 0 where
  pub low : from ≤ slot
  pub high : slot ≤ length old
  pub skipped : (j : ℕ) → from ≤ j → j < slot → get_or (get_or old j []) home false ≡ true
  pub free : get_or (get_or old slot []) home false ≡ false
  pub marked : new ≡ slice_set (reached old slot n) slot (mark_group ss (get_or (reached old slot n) slot []) home places)
