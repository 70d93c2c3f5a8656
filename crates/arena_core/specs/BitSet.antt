-- A set of numbers as a list of truths: the number i is a member where the i-th is true.
use Rattle.std.specs.Prelude.{◌≡◌, ◌↔◌, ℕ, ◌+◌, Bool, true, false, List, [], ◌∷◌, drop, Some, slice_get, Contains}
use Rattle.std.specs.List.Sorted.{IsStrictlyIncreasing}

-- the places of the truths, where the first place is i
abbrev pub members_from : ℕ → List Bool → List ℕ
members_from i [] = []
members_from i (true ∷ bs) = i ∷ members_from (i + 1) bs
members_from i (false ∷ bs) = members_from (i + 1) bs

-- the members in rising order
abbrev pub members : List Bool → List ℕ
members bs = members_from 0 bs

-- the members that are at least i, in rising order
abbrev pub members_at : ℕ → List Bool → List ℕ
members_at i bs = members_from i (drop i bs)

-- the members rise, so that each is listed once
abbrev pub MembersRise : Type 0
MembersRise = (bs : List Bool) → IsStrictlyIncreasing (members bs)

-- the members are the places of the truths, and no others
abbrev pub MembersAreTruths : Type 0
MembersAreTruths = (bs : List Bool) (i : ℕ) → Contains (members bs) i ↔ (slice_get bs i ≡ Some true)
