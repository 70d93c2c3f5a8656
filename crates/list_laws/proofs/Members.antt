-- The items of a list: what is in a list is in it after `++`, `map` and `filter`, and what is in these was in it.
use Rattle.std.specs.List.{Contains}
use Rattle.std.specs.Prelude.{suc, zero, true, slice_index_or, Bool, false, cond, filter, List, map, ℕ, ◌∷◌, ◌⊎◌, []}
use Rattle.std.proofs.Common.{ap, subst, get_or, arith, inr, sym, length, inl, refl, ◌≡◌, ◌<◌, ◌++◌}
use Rattle.std.proofs.lemmas.Bool.{both_ways}

abbrev pub In : {X : Type 0} → X → List X → Type 0
In x [] = ⊥
In x (y ∷ ys) = (y ≡ x) ⊎ In x ys

pub in_from_Contains : {X : Type 0} (xs : List X) (x : X) → Contains xs x → In x xs
in_from_Contains {X} xs x c = go xs c.0 c.1 c.2
  where
    go : (ys : List X) (k : ℕ) → k < length ys → slice_index_or ys k x ≡ x → In x ys
    go [] k h e = absurd (omega (arith, h))
    go (y ∷ ys) zero h e = inl e
    go (y ∷ ys) (suc k) h e = inr (go ys k (omega (arith, h)) e)

pub contains_from_in : {X : Type 0} (xs : List X) (x : X) → In x xs → Contains xs x
contains_from_in [] x h = absurd h
contains_from_in {X} (y ∷ ys) x h = go h (contains_from_in ys x)
  where
    go : (y ≡ x) ⊎ In x ys → (In x ys → Contains ys x) → Contains (y ∷ ys) x
    go (inl e) ih = (0, omega arith, e)
    go (inr i) ih = let c : Contains ys x = ih i in (suc c.0, (let l : c.0 < length ys = c.1 in omega arith), c.2)

pub in_left : {X : Type 0} (xs ys : List X) (x : X) → In x xs → In x (xs ++ ys)
in_left [] ys x i = absurd i
in_left {X} (z ∷ zs) ys x i = go i (in_left zs ys x)
  where
    go : (z ≡ x) ⊎ In x zs → (In x zs → In x (zs ++ ys)) → (z ≡ x) ⊎ In x (zs ++ ys)
    go (inl e) ih = inl e
    go (inr j) ih = inr (ih j)

pub in_right : {X : Type 0} (xs ys : List X) (x : X) → In x ys → In x (xs ++ ys)
in_right [] ys x i = i
in_right (z ∷ zs) ys x i = inr (in_right zs ys x i)

pub from_append : {X : Type 0} (xs ys : List X) (x : X) → In x (xs ++ ys) → In x xs ⊎ In x ys
from_append [] ys x i = inr i
from_append {X} (z ∷ zs) ys x i = go i (from_append zs ys x)
  where
    go : (z ≡ x) ⊎ In x (zs ++ ys) → (In x (zs ++ ys) → In x zs ⊎ In x ys) → In x (z ∷ zs) ⊎ In x ys
    go (inl e) ih = inl (inl e)
    go (inr j) ih = at (ih j)
      where
        at : In x zs ⊎ In x ys → In x (z ∷ zs) ⊎ In x ys
        at (inl k) = inl (inr k)
        at (inr k) = inr k

pub in_map : {X Y : Type 0} (f : X → Y) (xs : List X) (x : X) → In x xs → In (f x) (map f xs)
in_map f [] x i = i
in_map {X} {Y} f (z ∷ zs) x i = go i (in_map f zs x)
  where
    go : (z ≡ x) ⊎ In x zs → (In x zs → In (f x) (map f zs)) → (f z ≡ f x) ⊎ In (f x) (map f zs)
    go (inl e) ih = inl (ap f e)
    go (inr j) ih = inr (ih j)

pub from_map : {X Y : Type 0} (f : X → Y) (xs : List X) (y : Y) → In y (map f xs) → (x : X) × In x xs × (f x ≡ y)
from_map f [] y i = absurd i
from_map {X} {Y} f (z ∷ zs) y i = go i (from_map f zs y)
  where
    go : (f z ≡ y) ⊎ In y (map f zs) → (In y (map f zs) → (x : X) × In x zs × (f x ≡ y)) → (x : X) × In x (z ∷ zs) × (f x ≡ y)
    go (inl e) ih = (z, inl refl, e)
    go (inr j) ih = let r : (x : X) × In x zs × (f x ≡ y) = ih j in (r.0, inr r.1, r.2)

pub in_filter : {X : Type 0} (test : X → Bool) (xs : List X) (x : X) → In x xs → test x ≡ true → In x (filter test xs)
in_filter test [] x i h = i
in_filter {X} test (z ∷ zs) x i h = go (test z) refl i (in_filter test zs x)
  where
    go : (b : Bool) → test z ≡ b → (z ≡ x) ⊎ In x zs → (In x zs → test x ≡ true → In x (filter test zs)) → In x (cond b (z ∷ filter test zs) (filter test zs))
    go true q (inl e) ih = inl e
    go true q (inr j) ih = inr (ih j h)
    go false q (inl e) ih = absurd (both_ways _ q (subst (λ y. test y ≡ true) (sym e) h))
    go false q (inr j) ih = ih j h

pub from_filter : {X : Type 0} (test : X → Bool) (xs : List X) (x : X) → In x (filter test xs) → In x xs × (test x ≡ true)
from_filter test [] x i = absurd i
from_filter {X} test (z ∷ zs) x i = go (test z) refl i (from_filter test zs x)
  where
    go : (b : Bool) → test z ≡ b → In x (cond b (z ∷ filter test zs) (filter test zs)) → (In x (filter test zs) → In x zs × (test x ≡ true)) → In x (z ∷ zs) × (test x ≡ true)
    go true q (inl e) ih = (inl e, subst (λ y. test y ≡ true) e q)
    go true q (inr j) ih = let r : In x zs × (test x ≡ true) = ih j in (inr r.0, r.1)
    go false q j ih = let r : In x zs × (test x ≡ true) = ih j in (inr r.0, r.1)

pub in_at : {X : Type 0} (xs : List X) (i : ℕ) (d : X) → i < length xs → In (get_or xs i d) xs
in_at [] i d h = absurd (omega (arith, h))
in_at (x ∷ xs) zero d h = inl refl
in_at (x ∷ xs) (suc i) d h = inr (in_at xs i d (omega (arith, h)))

-- the name that is found at a place of a list
pub found_at : {X : Type 0} (xs : List X) (x d : X) → In x xs → (k : ℕ) × (k < length xs) × (get_or xs k d ≡ x)
found_at [] x d i = absurd i
found_at {X} (y ∷ ys) x d i = go i (found_at ys x d)
  where
    go : (y ≡ x) ⊎ In x ys → (In x ys → (k : ℕ) × (k < length ys) × (get_or ys k d ≡ x)) → (k : ℕ) × (k < length (y ∷ ys)) × (get_or (y ∷ ys) k d ≡ x)
    go (inl e) ih = (0, omega arith, e)
    go (inr j) ih = let r : (k : ℕ) × (k < length ys) × (get_or ys k d ≡ x) = ih j in (suc r.0, (let h : r.0 < length ys = r.1 in omega (arith, h)), r.2)
