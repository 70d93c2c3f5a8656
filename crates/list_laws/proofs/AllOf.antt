-- What holds of each item of a list.
use Rattle.std.specs.List.{AllByRecursion}
use Rattle.std.specs.Prelude.{suc, List, true, false, reverse, cond, slice_index_or, zero, Bool, ℕ, filter, ◌∷◌, ◌⊎◌, []}
use Rattle.std.proofs.Common.{arith, inr, length, inl, subst, ◌≡◌, ◌<◌, ◌++◌, refl}
use Rattle.std.proofs.lemmas.Grind.{reverse_onto}
use Rattle.list_laws.proofs.Members.{In}

abbrev pub AllOf : {X : Type 0} → (X → Type 0) → List X → Type 0
AllOf P xs = AllByRecursion P xs

pub of_each : {X : Type 0} (P : X → Type 0) (xs : List X) (x : X) → AllOf P xs → In x xs → P x
of_each P [] x a i = absurd i
of_each {X} P (y ∷ ys) x a i = go i (of_each P ys x a.1)
  where
    go : (y ≡ x) ⊎ In x ys → (In x ys → P x) → P x
    go (inl e) ih = subst P e a.0
    go (inr j) ih = ih j

-- and the other way
pub of_members : {X : Type 0} (P : X → Type 0) (xs : List X) → ((x : X) → In x xs → P x) → AllOf P xs
of_members P [] f = tt
of_members P (x ∷ xs) f = (f x (inl refl), of_members P xs (λ y i. f y (inr i)))

pub AllOf_push : {X : Type 0} (P : X → Type 0) (xs : List X) (y : X) → AllOf P xs → P y → AllOf P (xs ++ y ∷ [])
AllOf_push P [] y a p = (p, tt)
AllOf_push P (x ∷ xs) y a p = (a.0, AllOf_push P xs y a.1 p)

pub AllOf_append : {X : Type 0} (P : X → Type 0) (xs ys : List X) → AllOf P xs → AllOf P ys → AllOf P (xs ++ ys)
AllOf_append P [] ys a b = b
AllOf_append P (x ∷ xs) ys a b = (a.0, AllOf_append P xs ys a.1 b)

pub AllOf_weaken : {X : Type 0} (P Q : X → Type 0) → ((x : X) → P x → Q x) → (xs : List X) → AllOf P xs → AllOf Q xs
AllOf_weaken P Q f [] a = tt
AllOf_weaken P Q f (x ∷ xs) a = (f x a.0, AllOf_weaken P Q f xs a.1)

pub AllOf_reverse : {X : Type 0} (P : X → Type 0) (xs : List X) → AllOf P xs → AllOf P (reverse xs)
AllOf_reverse P [] a = tt
AllOf_reverse P (x ∷ xs) a = rw (reverse_onto xs x []) (AllOf_push P (reverse xs) x (AllOf_reverse P xs a.1) a.0)

pub AllOf_filter : {X : Type 0} (P : X → Type 0) (test : X → Bool) (xs : List X) → AllOf P xs → AllOf P (filter test xs)
AllOf_filter P test [] h = tt
AllOf_filter {X} P test (x ∷ xs) h = go (test x) h.0 (AllOf_filter P test xs h.1)
  where
    go : (b : Bool) → P x → AllOf P (filter test xs) → AllOf P (cond b (x ∷ filter test xs) (filter test xs))
    go true p ih = (p, ih)
    go false p ih = ih

pub all_by_place : {X : Type 0} (P : X → Type 0) (xs : List X) (i : ℕ) (d : X) → AllOf P xs → i < length xs → P (slice_index_or xs i d)
all_by_place P [] i d a h = absurd (omega (arith, h))
all_by_place P (x ∷ xs) zero d a h = a.0
all_by_place P (x ∷ xs) (suc i) d a h = all_by_place P xs i d a.1 (omega (arith, h))
