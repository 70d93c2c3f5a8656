-- The items that pass a test, and how many they are.
use Rattle.std.specs.Prelude.{suc, true, Bool, false, cond, filter, List, map, ◌∷◌, ◌≤◌, ◌&&◌, ◌⊎◌, []}
use Rattle.std.proofs.Common.{ap, subst, arith, inr, sym, length, inl, refl, ◌≡◌, ◌∙◌, ◌<◌, ◌+◌}
use Rattle.std.proofs.lemmas.Bool.{both_ways}
use Rattle.list_laws.proofs.Members.{In}

pub filter_same : {X : Type 0} (t u : X → Bool) (xs : List X) → ((x : X) → In x xs → t x ≡ u x) → filter t xs ≡ filter u xs
filter_same t u [] h = refl
filter_same t u (x ∷ xs) h = ap (λ b. cond b (x ∷ filter t xs) (filter t xs)) (h x (inl refl)) ∙ ap (λ ys. cond (u x) (x ∷ ys) ys) (filter_same t u xs (λ y i. h y (inr i)))

pub filter_all : {X : Type 0} (t : X → Bool) (xs : List X) → ((x : X) → In x xs → t x ≡ true) → filter t xs ≡ xs
filter_all t [] h = refl
filter_all t (x ∷ xs) h = ap (λ b. cond b (x ∷ filter t xs) (filter t xs)) (h x (inl refl)) ∙ ap (λ ys. x ∷ ys) (filter_all t xs (λ y i. h y (inr i)))

pub filter_none : {X : Type 0} (t : X → Bool) (xs : List X) → ((x : X) → In x xs → t x ≡ false) → filter t xs ≡ []
filter_none t [] h = refl
filter_none t (x ∷ xs) h = ap (λ b. cond b (x ∷ filter t xs) (filter t xs)) (h x (inl refl)) ∙ filter_none t xs (λ y i. h y (inr i))

-- a filter under a map, and two filters of which one looks at what the map gives
pub filter_map_before : {X Y : Type 0} (f : X → Y) (t : Y → Bool) (xs : List X) → filter t (map f xs) ≡ map f (filter (λ x. t (f x)) xs)
filter_map_before f t [] = refl
filter_map_before {X} {Y} f t (x ∷ xs) = go (t (f x)) (filter_map_before f t xs)
  where
    go : (b : Bool) → filter t (map f xs) ≡ map f (filter (λ y. t (f y)) xs)
        → cond b (f x ∷ filter t (map f xs)) (filter t (map f xs)) ≡ map f (cond b (x ∷ filter (λ y. t (f y)) xs) (filter (λ y. t (f y)) xs))
    go true ih = ap (λ ys. f x ∷ ys) ih
    go false ih = ih

pub filter_twice : {X Y : Type 0} (f : X → Y) (t : X → Bool) (u : Y → Bool) (xs : List X) → map f (filter (λ x. t x && u (f x)) xs) ≡ filter u (map f (filter t xs))
filter_twice f t u [] = refl
filter_twice {X} {Y} f t u (x ∷ xs) = go (t x) (u (f x)) refl (filter_twice f t u xs)
  where
    go : (a b : Bool) → u (f x) ≡ b → map f (filter (λ y. t y && u (f y)) xs) ≡ filter u (map f (filter t xs))
        → map f (cond (a && b) (x ∷ filter (λ y. t y && u (f y)) xs) (filter (λ y. t y && u (f y)) xs)) ≡ filter u (map f (cond a (x ∷ filter t xs) (filter t xs)))
    go true true e ih = ap (λ ys. f x ∷ ys) ih ∙ sym (ap (λ b. cond b (f x ∷ filter u (map f (filter t xs))) (filter u (map f (filter t xs)))) e)
    go true false e ih = ih ∙ sym (ap (λ b. cond b (f x ∷ filter u (map f (filter t xs))) (filter u (map f (filter t xs)))) e)
    go false b e ih = ih

pub filter_most : {X : Type 0} (p : X → Bool) (xs : List X) → length (filter p xs) ≤ length xs
filter_most p [] = omega arith
filter_most {X} p (x ∷ xs) = go (p x) (filter_most p xs)
  where
    go : (b : Bool) → length (filter p xs) ≤ length xs → length (cond b (x ∷ filter p xs) (filter p xs)) ≤ suc (length xs)
    go true h = omega (arith, h)
    go false h = omega (arith, h)

-- no item passes both tests
pub two_filters_most : {X : Type 0} (p q : X → Bool) (xs : List X) → ((x : X) → p x ≡ true → q x ≡ false) → length (filter p xs) + length (filter q xs) ≤ length xs
two_filters_most p q [] f = omega arith
two_filters_most {X} p q (x ∷ xs) f = go (p x) (q x) (f x) (two_filters_most p q xs f)
  where
    go : (a b : Bool) → (a ≡ true → b ≡ false) → length (filter p xs) + length (filter q xs) ≤ length xs → length (cond a (x ∷ filter p xs) (filter p xs)) + length (cond b (x ∷ filter q xs) (filter q xs)) ≤ suc (length xs)
    go true true g h = absurd (both_ways true (g refl) refl)
    go true false g h = omega (arith, h)
    go false true g h = omega (arith, h)
    go false false g h = omega (arith, h)

-- filter_fewer pass a test that lets through less, and not x
pub filter_fewer : {X : Type 0} (p q : X → Bool) (xs : List X) → ((x : X) → In x xs → p x ≡ true → q x ≡ true) → length (filter p xs) ≤ length (filter q xs)
filter_fewer p q [] f = omega arith
filter_fewer {X} p q (x ∷ xs) f = go (p x) (q x) (f x (inl refl)) (filter_fewer p q xs (λ y i. f y (inr i)))
  where
    go : (a b : Bool) → (a ≡ true → b ≡ true) → length (filter p xs) ≤ length (filter q xs) → length (cond a (x ∷ filter p xs) (filter p xs)) ≤ length (cond b (x ∷ filter q xs) (filter q xs))
    go true true g h = omega (arith, h)
    go true false g h = absurd (both_ways false refl (g refl))
    go false true g h = omega (arith, h)
    go false false g h = h

pub filter_strictly_fewer : {X : Type 0} (p q : X → Bool) (xs : List X) (x : X) → In x xs → p x ≡ false → q x ≡ true → ((y : X) → In y xs → p y ≡ true → q y ≡ true) → length (filter p xs) < length (filter q xs)
filter_strictly_fewer p q [] x i n y f = absurd i
filter_strictly_fewer {X} p q (z ∷ zs) x i n y f = go (p z) (q z) refl refl i (f z (inl refl)) (filter_fewer p q zs (λ w j. f w (inr j))) (λ j. filter_strictly_fewer p q zs x j n y (λ w k. f w (inr k)))
  where
    go : (a b : Bool) → p z ≡ a → q z ≡ b → (z ≡ x) ⊎ In x zs → (p z ≡ true → q z ≡ true) → length (filter p zs) ≤ length (filter q zs) → (In x zs → length (filter p zs) < length (filter q zs))
        → length (cond a (z ∷ filter p zs) (filter p zs)) < length (cond b (z ∷ filter q zs) (filter q zs))
    go true b e g (inl s) h l ih = absurd (both_ways _ n (subst (λ w. p w ≡ true) s e))
    go false true e g (inl s) h l ih = omega (arith, l)
    go false false e g (inl s) h l ih = absurd (both_ways _ g (subst (λ w. q w ≡ true) (sym s) y))
    go true true e g (inr j) h l ih = let k : length (filter p zs) < length (filter q zs) = ih j in omega (arith, k)
    go true false e g (inr j) h l ih = absurd (both_ways _ g (h e))
    go false true e g (inr j) h l ih = omega (arith, l)
    go false false e g (inr j) h l ih = ih j
