-- Whether an item passes a test.
use Rattle.std.specs.List.{list_any, list_all}
use Rattle.std.specs.Prelude.{List, true, false, map, Bool, ◌∷◌, ◌||◌, ◌⊎◌, []}
use Rattle.std.proofs.Common.{ap, inr, sym, inl, subst, refl, ◌≡◌, ◌∙◌}
use Rattle.std.proofs.lemmas.Bool.{and_from, or_right, or_left, or_cases, and_parts, both_ways}
use Rattle.list_laws.proofs.Members.{In}

pub any_some : {X : Type 0} (test : X → Bool) (xs : List X) → list_any test xs ≡ true → (x : X) × In x xs × (test x ≡ true)
any_some test [] e = absurd (both_ways _ refl e)
any_some {X} test (x ∷ xs) e = go (or_cases _ _ e) (any_some test xs)
  where
    go : (test x ≡ true) ⊎ (list_any test xs ≡ true) → (list_any test xs ≡ true → (y : X) × In y xs × (test y ≡ true)) → (y : X) × In y (x ∷ xs) × (test y ≡ true)
    go (inl h) ih = (x, inl refl, h)
    go (inr h) ih = let r : (y : X) × In y xs × (test y ≡ true) = ih h in (r.0, inr r.1, r.2)

pub any_from : {X : Type 0} (test : X → Bool) (xs : List X) (x : X) → In x xs → test x ≡ true → list_any test xs ≡ true
any_from test [] x i h = absurd i
any_from {X} test (y ∷ ys) x i h = go i (any_from test ys x)
  where
    go : (y ≡ x) ⊎ In x ys → (In x ys → test x ≡ true → list_any test ys ≡ true) → list_any test (y ∷ ys) ≡ true
    go (inl e) ih = or_left _ _ (subst (λ z. test z ≡ true) (sym e) h)
    go (inr j) ih = or_right _ _ (ih j h)

pub any_map : {X Y : Type 0} (f : X → Y) (test : Y → Bool) (xs : List X) → list_any test (map f xs) ≡ list_any (λ x. test (f x)) xs
any_map f test [] = refl
any_map f test (x ∷ xs) = ap (λ b. test (f x) || b) (any_map f test xs)

pub any_same : {X : Type 0} (t u : X → Bool) (xs : List X) → ((x : X) → In x xs → t x ≡ u x) → list_any t xs ≡ list_any u xs
any_same t u [] h = refl
any_same t u (x ∷ xs) h = ap (λ b. b || list_any t xs) (h x (inl refl)) ∙ ap (λ b. u x || b) (any_same t u xs (λ y i. h y (inr i)))

-- where each item of one test passes another
pub any_weaken : {X : Type 0} (p q : X → Bool) → ((x : X) → p x ≡ true → q x ≡ true) → (xs : List X) → list_any p xs ≡ true → list_any q xs ≡ true
any_weaken p q f [] h = h
any_weaken p q f (x ∷ xs) h = go (or_cases _ _ h) (any_weaken p q f xs)
  where
    go : (p x ≡ true) ⊎ (list_any p xs ≡ true) → (list_any p xs ≡ true → list_any q xs ≡ true) → list_any q (x ∷ xs) ≡ true
    go (inl e) ih = or_left _ _ (f x e)
    go (inr e) ih = or_right _ _ (ih e)

pub all_weaken : {X : Type 0} (p q : X → Bool) → ((x : X) → p x ≡ true → q x ≡ true) → (xs : List X) → list_all p xs ≡ true → list_all q xs ≡ true
all_weaken p q f [] h = refl
all_weaken p q f (x ∷ xs) h = and_from _ _ (f x (and_parts _ _ h).0) (all_weaken p q f xs (and_parts _ _ h).1)

pub all_map : {X Y : Type 0} (f : X → Y) (test : Y → Bool) (xs : List X) → ((x : X) → In x xs → test (f x) ≡ true) → list_all test (map f xs) ≡ true
all_map f test [] h = refl
all_map f test (x ∷ xs) h = and_from _ _ (h x (inl refl)) (all_map f test xs (λ y i. h y (inr i)))

pub any_never : {X : Type 0} (xs : List X) → list_any (λ x. false) xs ≡ false
any_never [] = refl
any_never (x ∷ xs) = any_never xs

pub any_none : {X : Type 0} (test : X → Bool) (xs : List X) → ((x : X) → In x xs → test x ≡ false) → list_any test xs ≡ false
any_none test xs h = any_same test (λ x. false) xs h ∙ any_never xs
