-- Nodes that rise, and those of them that pass a test.
use Rattle.std.specs.Prelude.{◌+◌, ◌<◌, ◌≤◌, ℕ, suc, Bool, true, false, List, [], ◌∷◌, length, map, filter, if◌then◌else◌}
use Rattle.std.specs.List.{AllByRecursion}
use Rattle.std.proofs.Common.{arith}
use Rattle.number_tables.specs.PlacedNumbers.{RiseFrom}

rise_from_less : (m n : ℕ) (ns : List ℕ) → m ≤ n → RiseFrom n ns → RiseFrom m ns
rise_from_less m n [] h r = tt
rise_from_less m n (k ∷ ns) h r = (let i : n ≤ k = r.0 in omega (arith, i, h), r.1)

pub rise_filter : {X : Type 0} (f : X → ℕ) (t : X → Bool) (n : ℕ) (xs : List X) → RiseFrom n (map f xs) → RiseFrom n (map f (filter t xs))
rise_filter f t n [] r = tt
rise_filter f t n (x ∷ xs) r =
    let more = rise_filter f t (suc (f x)) xs r.1 in
    elim (t x) as (λ (b : Bool). RiseFrom n (map f (if b then x ∷ filter t xs else filter t xs)))
    [ true ↦ (r.0, more) | false ↦ rise_from_less n (suc (f x)) (map f (filter t xs)) (let i : n ≤ f x = r.0 in omega (arith, i)) more ]

pub all_filter : {X Y : Type 0} (P : Y → Type 0) (f : X → Y) (t : X → Bool) (xs : List X) → AllByRecursion P (map f xs) → AllByRecursion P (map f (filter t xs))
all_filter P f t [] a = tt
all_filter P f t (x ∷ xs) a =
    let more = all_filter P f t xs a.1 in
    elim (t x) as (λ (b : Bool). AllByRecursion P (map f (if b then x ∷ filter t xs else filter t xs))) [ true ↦ (a.0, more) | false ↦ more ]

pub all_kept : {X : Type 0} (P : X → Type 0) (t : X → Bool) (xs : List X) → AllByRecursion P xs → AllByRecursion P (filter t xs)
all_kept P t [] a = tt
all_kept P t (x ∷ xs) a =
    let more = all_kept P t xs a.1 in
    elim (t x) as (λ (b : Bool). AllByRecursion P (if b then x ∷ filter t xs else filter t xs)) [ true ↦ (a.0, more) | false ↦ more ]

pub all_weaken : {X : Type 0} (P Q : X → Type 0) → ((x : X) → P x → Q x) → (xs : List X) → AllByRecursion P xs → AllByRecursion Q xs
all_weaken P Q h [] a = tt
all_weaken P Q h (x ∷ xs) a = (h x a.0, all_weaken P Q h xs a.1)

-- rising numbers below N are at most as many
pub rising_fit : (n N : ℕ) (ms : List ℕ) → n ≤ N → RiseFrom n ms → AllByRecursion (λ m. m < N) ms → n + length ms ≤ N
rising_fit n N [] h r a = omega (arith, h)
rising_fit n N (m ∷ ms) h r a =
    let i : n ≤ m = r.0 in
    let j : m < N = a.0 in
    let more : suc m + length ms ≤ N = rising_fit (suc m) N ms (omega (arith, j)) r.1 a.1 in
    omega (arith, i, j, more)
