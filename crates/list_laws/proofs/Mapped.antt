-- Lists under a map.
use Rattle.std.specs.Prelude.{List, map, reverse, ◌∷◌, ◌⊎◌, []}
use Rattle.std.proofs.Common.{ap, inr, sym, inl, subst, refl, ◌≡◌, ◌∙◌, ◌++◌}
use Rattle.std.proofs.lemmas.Grind.{reverse_onto}
use Rattle.std.proofs.lemmas.List.{map-append}
use Rattle.list_laws.proofs.Members.{In}

pub map_same : {X Y : Type 0} (f g : X → Y) (xs : List X) → ((x : X) → In x xs → f x ≡ g x) → map f xs ≡ map g xs
map_same f g [] h = refl
map_same f g (x ∷ xs) h = ap (λ y. y ∷ map f xs) (h x (inl refl)) ∙ ap (λ ys. g x ∷ ys) (map_same f g xs (λ y i. h y (inr i)))

unfoldable pub first_or : {Y : Type 0} → Y → List Y → Y
first_or y [] = y
first_or y (z ∷ zs) = z

unfoldable pub past_first : {Y : Type 0} → List Y → List Y
past_first [] = []
past_first (z ∷ zs) = zs

pub maps_agree : {X Y : Type 0} (f g : X → Y) (xs : List X) → map f xs ≡ map g xs → (x : X) → In x xs → f x ≡ g x
unfolding first_or past_first
maps_agree f g [] e x i = absurd i
maps_agree {X} {Y} f g (z ∷ zs) e x i = go i (maps_agree f g zs (ap past_first e) x)
  where
    go : (z ≡ x) ⊎ In x zs → (In x zs → f x ≡ g x) → f x ≡ g x
    go (inl s) ih = subst (λ y. f y ≡ g y) s (ap (first_or (f z)) e)
    go (inr j) ih = ih j

pub map_reverse : {X Y : Type 0} (f : X → Y) (xs : List X) → map f (reverse xs) ≡ reverse (map f xs)
map_reverse f [] = refl
map_reverse f (x ∷ xs) = ap (map f) (reverse_onto xs x []) ∙ map-append f (reverse xs) (x ∷ []) ∙ ap (λ ys. ys ++ f x ∷ []) (map_reverse f xs) ∙ sym (reverse_onto (map f xs) (f x) [])
