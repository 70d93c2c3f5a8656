-- The first item that passes a test.
use Rattle.std.specs.List.{list_any}
use Rattle.std.specs.Prelude.{Some, Option, true, None, Bool, false, find, cond, List, map, ◌∷◌, ◌||◌, ◌⊎◌, []}
use Rattle.std.proofs.Common.{ap, subst, inr, sym, inl, refl, ◌≡◌, ◌∙◌, ◌++◌}
use Rattle.std.proofs.lemmas.Bool.{both_ways}
use Rattle.list_laws.proofs.Members.{In}
use Rattle.list_laws.proofs.Tests.{none_some, some_one, told}

pub record First {X : Type 0} (test : X → Bool) (xs : List X) (x : X) : Type 0 where
  pub among : In x xs
  pub passes : test x ≡ true

pub find_first : {X : Type 0} (test : X → Bool) (xs : List X) (x : X) → find test xs ≡ Some x → First test xs x
find_first test [] x e = absurd (none_some x e)
find_first {X} test (y ∷ ys) x e = go (test y) refl e (find_first test ys x)
  where
    go : (b : Bool) → test y ≡ b → cond b (Some y) (find test ys) ≡ Some x → (find test ys ≡ Some x → First test ys x) → First test (y ∷ ys) x
    go true h q ih = let s : y ≡ x = some_one y x q in record { among = inl s; passes = subst (λ z. test z ≡ true) s h }
    go false h q ih = let r : First test ys x = ih q in record { among = inr r.among; passes = r.passes }

pub find_none : {X : Type 0} (test : X → Bool) (xs : List X) (x : X) → find test xs ≡ None → In x xs → test x ≡ true → ⊥
find_none test [] x e i h = i
find_none {X} test (y ∷ ys) x e i h = go (test y) refl e i (find_none test ys x)
  where
    go : (b : Bool) → test y ≡ b → cond b (Some y) (find test ys) ≡ None → (y ≡ x) ⊎ In x ys → (find test ys ≡ None → In x ys → test x ≡ true → ⊥) → ⊥
    go true q n j ih = none_some y (sym n)
    go false q n (inl s) ih = both_ways _ q (subst (λ z. test z ≡ true) (sym s) h)
    go false q n (inr j) ih = ih n j h

-- where one test passes only what another does, and passes the first that the other does, both find the same
pub find_same_first : {X : Type 0} (t u : X → Bool) (xs : List X) → ((x : X) → In x xs → u x ≡ true → t x ≡ true) → ((x : X) → find t xs ≡ Some x → u x ≡ true) → find u xs ≡ find t xs
find_same_first t u [] less first = refl
find_same_first {X} t u (x ∷ xs) less first = go (t x) (u x) refl refl (λ q. less x (inl refl) q) (λ e. first x e) (λ f. find_same_first t u xs (λ y i. less y (inr i)) f) first
  where
    go : (a b : Bool) → t x ≡ a → u x ≡ b → (u x ≡ true → t x ≡ true) → (cond (t x) (Some x) (find t xs) ≡ Some x → u x ≡ true)
        → (((y : X) → find t xs ≡ Some y → u y ≡ true) → find u xs ≡ find t xs) → ((y : X) → cond (t x) (Some x) (find t xs) ≡ Some y → u y ≡ true)
        → cond (u x) (Some x) (find u xs) ≡ cond (t x) (Some x) (find t xs)
    go true true p q l f ih g = rw (p, q) refl
    go true false p q l f ih g = absurd (both_ways _ q (f (rw p refl)))
    go false true p q l f ih g = absurd (both_ways _ p (l q))
    go false false p q l f ih g = rw (p, q) (ih (λ y e. g y (rw p e)))

-- what is found in a list under a map
pub find_map : {X Y : Type 0} (f : X → Y) (test : Y → Bool) (xs : List X) → find test (map f xs) ≡ elim (find (λ x. test (f x)) xs) [ None ↦ None | Some x ↦ Some (f x) ]
find_map f test [] = refl
find_map {X} {Y} f test (x ∷ xs) = go (test (f x)) (find_map f test xs)
  where
    go : (b : Bool) → find test (map f xs) ≡ elim (find (λ y. test (f y)) xs) as (λ o. Option Y) [ None ↦ None | Some y ↦ Some (f y) ]
        → cond b (Some (f x)) (find test (map f xs)) ≡ elim (cond b (Some x) (find (λ y. test (f y)) xs)) as (λ o. Option Y) [ None ↦ None | Some y ↦ Some (f y) ]
    go true ih = refl
    go false ih = ih

pub find_same : {X : Type 0} (t u : X → Bool) (xs : List X) → ((x : X) → In x xs → t x ≡ u x) → find t xs ≡ find u xs
find_same t u [] h = refl
find_same t u (x ∷ xs) h = ap (λ b. cond b (Some x) (find t xs)) (h x (inl refl)) ∙ ap (λ o. cond (u x) (Some x) o) (find_same t u xs (λ y i. h y (inr i)))

pub find_nothing : {X : Type 0} (test : X → Bool) (xs : List X) → ((x : X) → In x xs → test x ≡ false) → find test xs ≡ None
find_nothing test [] h = refl
find_nothing test (x ∷ xs) h = ap (λ b. cond b (Some x) (find test xs)) (h x (inl refl)) ∙ find_nothing test xs (λ y i. h y (inr i))

-- the only one that passes is found
pub find_only : {X : Type 0} (test : X → Bool) (xs : List X) (x : X) → In x xs → test x ≡ true → ((y : X) → In y xs → test y ≡ true → y ≡ x) → find test xs ≡ Some x
find_only test xs x i h one = told (find test xs)
    (λ none. absurd (find_none test xs x none i h))
    (λ y e. let f : First test xs y = find_first test xs y e in e ∙ ap Some (one y f.among f.passes))

pub find_past : {X : Type 0} (t : X → Bool) (xs ys : List X) → list_any t xs ≡ false → find t (xs ++ ys) ≡ find t ys
find_past t [] ys h = refl
find_past {X} t (x ∷ xs) ys h = go (t x) h (find_past t xs ys)
  where
    go : (b : Bool) → (b || list_any t xs) ≡ false → (list_any t xs ≡ false → find t (xs ++ ys) ≡ find t ys) → cond b (Some x) (find t (xs ++ ys)) ≡ find t ys
    go true e ih = absurd (both_ways true e refl)
    go false e ih = ih e

pub find_early : {X : Type 0} (t : X → Bool) (xs ys : List X) → list_any t xs ≡ true → (x : X) × In x xs × (find t (xs ++ ys) ≡ Some x)
find_early t [] ys h = absurd (both_ways false refl h)
find_early {X} t (x ∷ xs) ys h = go (t x) h (find_early t xs ys)
  where
    go : (b : Bool) → (b || list_any t xs) ≡ true → (list_any t xs ≡ true → (y : X) × In y xs × (find t (xs ++ ys) ≡ Some y)) → (y : X) × In y (x ∷ xs) × (cond b (Some x) (find t (xs ++ ys)) ≡ Some y)
    go true e ih = (x, inl refl, refl)
    go false e ih = let r : (y : X) × In y xs × (find t (xs ++ ys) ≡ Some y) = ih e in (r.0, inr r.1, r.2)
