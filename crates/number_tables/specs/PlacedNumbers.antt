-- Numbers by the indices at which they stand.
use Rattle.std.specs.Prelude.{ℕ, suc, ◌≤◌, nat_eq, List, [], ◌∷◌, Option, None, ⊤, if◌then◌else◌}

-- the number beside the first of these indices that is n
unfoldable pub number_at : ℕ → List ℕ → List (Option ℕ) → Option ℕ
number_at n [] os = None
number_at n (m ∷ ms) [] = None
number_at n (m ∷ ms) (o ∷ os) = if nat_eq m n then o else number_at n ms os

-- each index is at least n, and greater than the one before
abbrev pub RiseFrom : ℕ → List ℕ → Type 0
RiseFrom n [] = ⊤
RiseFrom n (m ∷ ms) = (n ≤ m) × RiseFrom (suc m) ms
