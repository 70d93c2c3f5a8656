-- What holds of all items of a list, with one more.
use Rattle.std.specs.Prelude.{◌≡◌, List, [], ◌∷◌, ◌++◌}
use Rattle.std.specs.List.{Contains}
use Rattle.std.proofs.Common.{subst, inl, inr, ◌⊎◌}
use Rattle.list_laws.proofs.Members.{In, contains_from_in, from_append, in_from_Contains}

pub all_more : {X : Type 0} (P : X → Type 0) (xs : List X) (x : X) → ((y : X) → Contains xs y → P y) → P x → (ys : List X) → ys ≡ xs ++ x ∷ [] → (y : X) → Contains ys y → P y
all_more P xs x before here ys are y i = go (from_append xs (x ∷ []) y (in_from_Contains (xs ++ x ∷ []) y (subst (λ zs. Contains zs y) are i)))
  where
    go : In y xs ⊎ In y (x ∷ []) → P y
    go (inl j) = before y (contains_from_in xs y j)
    go (inr (inl e)) = subst P e here
    go (inr (inr j)) = absurd j

pub all_none : {X : Type 0} (P : X → Type 0) (ys : List X) → ys ≡ [] → (y : X) → Contains ys y → P y
all_none P ys are y i = absurd (in_from_Contains [] y (subst (λ zs. Contains zs y) are i))
