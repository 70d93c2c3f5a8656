-- The numbers of `count_from`: how many they are, that they differ, where each stands, and that a list with all of them is as long.
use Rattle.std.specs.Cmp.{nat_eq_equiv}
use Rattle.std.specs.List.{list_any}
use Rattle.std.specs.Prelude.{◌≡◌, ◌⊎◌, ℕ, zero, suc, ◌+◌, ◌≤◌, ◌<◌, true, List, [], ◌∷◌, eqb, length, map, get_or}
use Rattle.std.proofs.Common.{refl, ap, ◌∙◌, subst, arith, inl, inr}
use Rattle.std.proofs.lemmas.Bool.{or_cases, both_ways, eqb-true}
use Rattle.std.proofs.lemmas.List.{length-map}
use Rattle.std.proofs.lemmas.Map.Made.{length-le_from_is_member}
use Rattle.list_laws.proofs.AllOf.{AllOf}
use Rattle.list_laws.proofs.Counting.{distinct_told, numbers_told}
use Rattle.list_laws.proofs.Members.{In}
use Rattle.list_laws.proofs.PairsOf.{PairsOf}
use Rattle.tree_nodes.specs.Tree.{Text}
use Rattle.name_rules.specs.GivenNames.{count_from, slot_names}
use Rattle.name_rules.specs.Open.{all_open}

pub count_above : (n k : ℕ) → AllOf (λ y. k ≤ y) (count_from n k)
unfolding all_open
count_above zero k = tt
count_above (suc n) k = (omega arith, weaken (count_from n (suc k)) (count_above n (suc k)))
  where
    weaken : (xs : List ℕ) → AllOf (λ y. suc k ≤ y) xs → AllOf (λ y. k ≤ y) xs
    weaken [] a = tt
    weaken (x ∷ xs) a = (let i : suc k ≤ x = a.0 in omega arith, weaken xs a.1)

pub count_apart : (n k : ℕ) → PairsOf (λ x y. x ≡ y → ⊥) (count_from n k)
unfolding all_open
count_apart zero k = tt
count_apart (suc n) k = (other (count_from n (suc k)) (count_above n (suc k)), count_apart n (suc k))
  where
    other : (xs : List ℕ) → AllOf (λ y. suc k ≤ y) xs → AllOf (λ y. k ≡ y → ⊥) xs
    other [] a = tt
    other (x ∷ xs) a = ((λ e. let i : suc k ≤ x = a.0 in omega arith), other xs a.1)

pub count_length : (n k : ℕ) → length (count_from n k) ≡ n
unfolding all_open
count_length zero k = refl
count_length (suc n) k = ap suc (count_length n (suc k))

pub count_below : (n k q : ℕ) → list_any (eqb q) (count_from n k) ≡ true → q < n + k
unfolding all_open
count_below zero k q h = absurd (both_ways _ refl h)
count_below (suc n) k q h = go (or_cases _ _ h) (count_below n (suc k) q)
  where
    go : (eqb q k ≡ true) ⊎ (list_any (eqb q) (count_from n (suc k)) ≡ true) → (list_any (eqb q) (count_from n (suc k)) ≡ true → q < n + suc k) → q < suc n + k
    go (inl e) ih = let i : q ≡ k = eqb-true q k e in omega arith
    go (inr e) ih = let i : q < n + suc k = ih e in omega arith

-- a list with all numbers below n has n items
pub all_below_listed : (n : ℕ) (ns : List ℕ) → ((j : ℕ) → j < n → list_any (eqb j) ns ≡ true) → n ≤ length ns
unfolding all_open
all_below_listed n ns h = subst (λ (m : ℕ). m ≤ length ns) (count_length n 0)
    (length-le_from_is_member nat_eq_equiv (count_from n 0) ns (distinct_told eqb numbers_told (count_from n 0) (count_apart n 0)) (λ q m. h q (let i : q < n + 0 = count_below n 0 q m in omega arith)))

pub count_at : {X : Type 0} (f : ℕ → X) (n a k : ℕ) (d : X) → k < n → get_or (map f (count_from n a)) k d ≡ f (k + a)
unfolding all_open
count_at f zero a k d h = absurd (omega (arith, h))
count_at f (suc n) a zero d h = ap f (let e : a ≡ 0 + a = omega arith in e)
count_at f (suc n) a (suc k) d h = count_at f n (suc a) k d (omega (arith, h)) ∙ ap f (let e : k + suc a ≡ suc k + a = omega arith in e)

pub from_count : (n a k : ℕ) → In k (count_from n a) → k < n + a
unfolding all_open
from_count zero a k i = absurd i
from_count (suc n) a k i = go i (from_count n (suc a) k)
  where
    go : (a ≡ k) ⊎ In k (count_from n (suc a)) → (In k (count_from n (suc a)) → k < n + suc a) → k < suc n + a
    go (inl e) ih = omega (arith, e)
    go (inr j) ih = let h : k < n + suc a = ih j in omega (arith, h)

-- as many names as weights
pub slot_names_length : (names : List Text) (weights : List ℕ) → length (slot_names names weights) ≡ length weights
unfolding slot_names
slot_names_length names weights = length-map (count_from (length weights) 0) _ ∙ count_length (length weights) 0
