-- Which numbers the list of members has, and in which order.
use Rattle.std.proofs.Common.{◌≡◌, ◌↔◌, ℕ, zero, suc, ◌+◌, ◌<◌, ◌≤◌, List, [], ◌∷◌, length, get_or, Bool, true, false, Some, refl, ap, ◌∙◌, arith, add-one}
use Rattle.std.specs.List.{slice_get, Contains}
use Rattle.std.specs.List.Sorted.{IsStrictlyIncreasing}
use Rattle.arena_core.specs.BitSet.{members_from, members}

members_from-low : (n : ℕ) (bs : List Bool) (k : ℕ) → k < length (members_from n bs) → n ≤ get_or (members_from n bs) k 0
members_from-low n [] k h = absurd (omega arith)
members_from-low n (true ∷ bs) zero h = omega arith
members_from-low n (true ∷ bs) (suc k) h = let after = members_from-low (n + 1) bs k (omega arith) in omega arith
members_from-low n (false ∷ bs) k h = let after = members_from-low (n + 1) bs k h in omega arith

rise : (n : ℕ) (bs : List Bool) (k : ℕ) → suc k < length (members_from n bs) → get_or (members_from n bs) k 0 < get_or (members_from n bs) (suc k) 0
rise n [] k h = absurd (omega arith)
rise n (true ∷ bs) zero h = let after = members_from-low (n + 1) bs 0 (omega arith) in omega arith
rise n (true ∷ bs) (suc k) h = rise (n + 1) bs k (omega arith)
rise n (false ∷ bs) k h = rise (n + 1) bs k h

pub members-rise : (bs : List Bool) → IsStrictlyIncreasing (members bs)
members-rise bs k h = rw add-one (rise 0 bs k (omega arith))

-- what is listed is the place of a truth
truth_of : (n : ℕ) (bs : List Bool) (i k : ℕ) → k < length (members_from n bs) → get_or (members_from n bs) k i ≡ i → (j : ℕ) × (i ≡ n + j) × (slice_get bs j ≡ Some true)
truth_of n [] i k h e = absurd (omega arith)
truth_of n (true ∷ bs) i zero h e = (0, omega arith, refl)
truth_of n (true ∷ bs) i (suc k) h e = let after = truth_of (n + 1) bs i k (omega arith) e in (suc after.0, omega (arith, after.1), after.2)
truth_of n (false ∷ bs) i k h e = let after = truth_of (n + 1) bs i k h e in (suc after.0, omega (arith, after.1), after.2)

-- and the place of each truth is listed
listed : (n : ℕ) (bs : List Bool) (j i : ℕ) → i ≡ n + j → slice_get bs j ≡ Some true → Contains (members_from n bs) i
listed n [] j i e t = cc
listed n (true ∷ bs) zero i e t = (0, omega arith, omega arith)
listed n (true ∷ bs) (suc j) i e t = let after = listed (n + 1) bs j i (omega arith) t in (suc after.0, omega (arith, after.1), after.2)
listed n (false ∷ bs) zero i e t = cc
listed n (false ∷ bs) (suc j) i e t = listed (n + 1) bs j i (omega arith) t

pub members-Contains : (bs : List Bool) (i : ℕ) → Contains (members bs) i ↔ (slice_get bs i ≡ Some true)
members-Contains bs i = (there, λ t. listed 0 bs i i (omega arith) t)
  where
    there : Contains (members bs) i → slice_get bs i ≡ Some true
    there c =
        let found = truth_of 0 bs i c.0 c.1 c.2 in
        let same : i ≡ found.0 = omega (arith, found.1) in
        ap (slice_get bs) same ∙ found.2
