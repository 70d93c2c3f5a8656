-- What holds of each item of a list and each later one.
use Rattle.std.specs.List.{AllPairs}
use Rattle.std.specs.Prelude.{suc, zero, true, reverse, Bool, false, cond, filter, List, map, ℕ, ◌∷◌, ◌⊎◌, [], ⊤}
use Rattle.std.proofs.Common.{subst, get_or, arith, inr, sym, length, inl, refl, ◌≡◌, ◌∙◌, ◌<◌, ◌++◌}
use Rattle.std.proofs.lemmas.Bool.{cases_order}
use Rattle.std.proofs.lemmas.Grind.{reverse_onto}
use Rattle.list_laws.proofs.AllOf.{AllOf, AllOf_append, AllOf_filter, AllOf_push, AllOf_reverse, AllOf_weaken, all_by_place, of_each, of_members}
use Rattle.list_laws.proofs.Members.{In}

-- R holds of each item and each later one
abbrev pub PairsOf : {X : Type 0} → (X → X → Type 0) → List X → Type 0
PairsOf R [] = ⊤
PairsOf R (x ∷ xs) = AllOf (R x) xs × PairsOf R xs

pub PairsOf_push : {X : Type 0} (R : X → X → Type 0) (xs : List X) (y : X) → PairsOf R xs → AllOf (λ x. R x y) xs → PairsOf R (xs ++ y ∷ [])
PairsOf_push R [] y a p = (tt, tt)
PairsOf_push R (x ∷ xs) y a p = (AllOf_push (R x) xs y a.0 p.0, PairsOf_push R xs y a.1 p.1)

pub PairsOf_weaken : {X : Type 0} (R S : X → X → Type 0) → ((x y : X) → R x y → S x y) → (xs : List X) → PairsOf R xs → PairsOf S xs
PairsOf_weaken R S f [] p = tt
PairsOf_weaken R S f (x ∷ xs) p = (AllOf_weaken (R x) (S x) (f x) xs p.0, PairsOf_weaken R S f xs p.1)

pub PairsOf_map : {X Y : Type 0} (R : X → X → Type 0) (S : Y → Y → Type 0) (f : X → Y) → ((x y : X) → R x y → S (f x) (f y)) → (xs : List X) → PairsOf R xs → PairsOf S (map f xs)
PairsOf_map R S f g [] p = tt
PairsOf_map {X} {Y} R S f g (x ∷ xs) p = (each xs p.0, PairsOf_map R S f g xs p.1)
  where
    each : (ys : List X) → AllOf (R x) ys → AllOf (S (f x)) (map f ys)
    each [] a = tt
    each (y ∷ ys) a = (g x y a.0, each ys a.1)

pub PairsOf_reverse : {X : Type 0} (R : X → X → Type 0) (xs : List X) → PairsOf (λ x y. R y x) xs → PairsOf R (reverse xs)
PairsOf_reverse R [] p = tt
PairsOf_reverse R (x ∷ xs) p = rw (reverse_onto xs x []) (PairsOf_push R (reverse xs) x (PairsOf_reverse R xs p.1) (AllOf_reverse (λ y. R y x) xs p.0))

pub PairsOf_append : {X : Type 0} (R : X → X → Type 0) (xs ys : List X) → PairsOf R xs → PairsOf R ys → AllOf (λ x. AllOf (R x) ys) xs → PairsOf R (xs ++ ys)
PairsOf_append R [] ys p q a = q
PairsOf_append R (x ∷ xs) ys p q a = (AllOf_append (R x) xs ys p.0 a.0, PairsOf_append R xs ys p.1 q a.1)

pub PairsOf_append_members : {X : Type 0} (R : X → X → Type 0) (xs ys : List X) → PairsOf R xs → PairsOf R ys → ((x y : X) → In x xs → In y ys → R x y) → PairsOf R (xs ++ ys)
PairsOf_append_members R xs ys p q f = PairsOf_append R xs ys p q (of_members (λ x. AllOf (R x) ys) xs (λ x i. of_members (R x) ys (λ y j. f x y i j)))

pub PairsOf_filter : {X : Type 0} (R : X → X → Type 0) (test : X → Bool) (xs : List X) → PairsOf R xs → PairsOf R (filter test xs)
PairsOf_filter R test [] h = tt
PairsOf_filter {X} R test (x ∷ xs) h = go (test x) (AllOf_filter (R x) test xs h.0) (PairsOf_filter R test xs h.1)
  where
    go : (b : Bool) → AllOf (R x) (filter test xs) → PairsOf R (filter test xs) → PairsOf R (cond b (x ∷ filter test xs) (filter test xs))
    go true a ih = (a, ih)
    go false a ih = ih

pub pairs_by_place : {X : Type 0} (R : X → X → Type 0) (xs : List X) → PairsOf R xs → AllPairs R xs
pairs_by_place R [] p i j d h k = absurd (omega (arith, k))
pairs_by_place R (x ∷ xs) p zero zero d h k = absurd (omega (arith, h))
pairs_by_place R (x ∷ xs) p zero (suc j) d h k = all_by_place (R x) xs j d p.0 (omega (arith, k))
pairs_by_place R (x ∷ xs) p (suc i) zero d h k = absurd (omega (arith, h))
pairs_by_place R (x ∷ xs) p (suc i) (suc j) d h k = pairs_by_place R xs p.1 i j d (omega (arith, h)) (omega (arith, k))

-- two of a list of pairs are one, or stand one after the other
pub one_or_paired : {X : Type 0} (R : X → X → Type 0) (xs : List X) (x y : X) → PairsOf R xs → In x xs → In y xs → (x ≡ y) ⊎ (R x y ⊎ R y x)
one_or_paired R [] x y p i j = absurd i
one_or_paired {X} R (z ∷ zs) x y p i j = go i j (one_or_paired R zs x y p.1)
  where
    go : (z ≡ x) ⊎ In x zs → (z ≡ y) ⊎ In y zs → (In x zs → In y zs → (x ≡ y) ⊎ (R x y ⊎ R y x)) → (x ≡ y) ⊎ (R x y ⊎ R y x)
    go (inl a) (inl b) ih = inl (sym a ∙ b)
    go (inl a) (inr b) ih = inr (inl (subst (λ w. R w y) a (of_each (R z) zs y p.0 b)))
    go (inr a) (inl b) ih = inr (inr (subst (λ w. R w x) b (of_each (R z) zs x p.0 a)))
    go (inr a) (inr b) ih = ih a b

pub different_map : {X Y : Type 0} (f : X → Y) (xs : List X) → PairsOf (λ x y. x ≡ y → ⊥) xs → ((x y : X) → In x xs → In y xs → f x ≡ f y → x ≡ y) → PairsOf (λ x y. x ≡ y → ⊥) (map f xs)
different_map f [] p g = tt
different_map {X} {Y} f (x ∷ xs) p g = (each xs p.0 (λ y i e. g x y (inl refl) (inr i) e), different_map f xs p.1 (λ y z i j. g y z (inr i) (inr j)))
  where
    each : (ys : List X) → AllOf (λ y. x ≡ y → ⊥) ys → ((y : X) → In y ys → f x ≡ f y → x ≡ y) → AllOf (λ z. f x ≡ z → ⊥) (map f ys)
    each [] a h = tt
    each (y ∷ ys) a h = ((λ e. a.0 (h y (inl refl) e)), each ys a.1 (λ w i. h w (inr i)))

pub one_at : {X : Type 0} (xs : List X) (i j : ℕ) (d : X) → PairsOf (λ x y. x ≡ y → ⊥) xs → i < length xs → j < length xs → get_or xs i d ≡ get_or xs j d → i ≡ j
one_at xs i j d p a b e = go (cases_order i j)
  where
    go : (i ≡ j) ⊎ ((i < j) ⊎ (j < i)) → i ≡ j
    go (inl q) = q
    go (inr (inl l)) = absurd (pairs_by_place (λ x y. x ≡ y → ⊥) xs p i j d l b e)
    go (inr (inr l)) = absurd (pairs_by_place (λ x y. x ≡ y → ⊥) xs p j i d l a (sym e))
