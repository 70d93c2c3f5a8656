-- What a push of the items of an iterator leaves.
use Rattle.std.specs.Iterator.{Drains, YieldsThen}
use Rattle.std.specs.Prelude.{◌≡◌, ℕ, List, ◌++◌, Option, Some}

-- the iterator gave these units and ended, and they are appended
abbrev pub PushesAll : {S : Type 0} → (S → Option ℕ → S → Type 0) → S → List ℕ → List ℕ → Type 0
PushesAll steps units old new = (given : List ℕ) × Drains steps units given × (new ≡ old ++ given)

-- the iterator gave these units, which are appended, and then one that isn't
abbrev pub PushesSome : {S : Type 0} → (S → Option ℕ → S → Type 0) → S → List ℕ → List ℕ → Type 0
PushesSome {S} steps units old new =
    (given : List ℕ) × (refused : ℕ) × (rest : S) × YieldsThen steps units given (Some refused) rest × (new ≡ old ++ given)
