-- What reads do to a source.
use Rattle.std.specs.Prelude.{◌≡◌, ℕ, ◌+◌, ◌≤◌, List, Option, Some, Result, MatchResult, drop, length}

-- the count of bytes given grows by n at `Ok(n)`, and stays at `Err`
abbrev pub CountsGiven : {E : Type 0} → ℕ → ℕ → Result ℕ E → Type 0
CountsGiven old new result = MatchResult result (λ n. new ≡ old + n) (λ _. new ≡ old)

-- of the bytes xs the first n are gone, and the others are left
abbrev pub LosesFront : Option (List ℕ) → ℕ → List ℕ → Type 0
LosesFront new n xs = (n ≤ length xs) × (new ≡ Some (drop n xs))
