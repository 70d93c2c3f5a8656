-- Answers along scopes, by their numbers.
use Rattle.std.specs.Prelude.{ℕ, Bool, false, not, ◌&&◌, ◌||◌, List, [], ◌∷◌, Option, None, Some}
use Rattle.place_list.specs.Outwards.{same_number}
use Rattle.scope_rules.specs.Bindings.{or_else}

-- the first answer
unfoldable pub nearest : (ℕ → Option ℕ) → List ℕ → Option ℕ
nearest f [] = None
nearest f (s ∷ ss) = or_else (f s) (nearest f ss)

-- one of them passes, before one has the number h
unfoldable pub any_before : (ℕ → Bool) → Option ℕ → List ℕ → Bool
any_before f h [] = false
any_before f h (s ∷ ss) = not (same_number (Some s) h) && (f s || any_before f h ss)
