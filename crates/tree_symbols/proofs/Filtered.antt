-- What groups and rows hold, in the words of lists: items that pass a test, indices at which it passes, the first that is a node.
use Rattle.std.specs.Prelude.{◌≡◌, ◌+◌, ℕ, suc, Bool, true, false, nat_eq, List, [], ◌∷◌, length, map, Option, Some, None, filter, find, if◌then◌else◌}
use Rattle.std.specs.List.{range_with_len}
use Rattle.std.proofs.Common.{refl, ap, ◌∙◌, add-one, inl, inr}
use Rattle.list_laws.proofs.Members.{In}
use Rattle.number_tables.specs.GroupsOf.{is_number, items_of}
use Rattle.number_tables.specs.PlacedNumbers.{number_at}
use Rattle.scope_rules.specs.Symbols.{indices_from}

module _ {X Y : Type 0} where
  pub items_filter : (g : X → Option ℕ) (f : X → Y) (k : ℕ) (xs : List X) → items_of k (map g xs) (map f xs) ≡ map f (filter (λ x. is_number (g x) k) xs)
  unfolding items_of
  items_filter g f k [] = refl
  items_filter g f k (x ∷ xs) =
      let more = items_filter g f k xs in
      elim (is_number (g x) k) as (λ (b : Bool). (if b then f x ∷ items_of k (map g xs) (map f xs) else items_of k (map g xs) (map f xs)) ≡ map f (if b then x ∷ filter (λ y. is_number (g y) k) xs else filter (λ y. is_number (g y) k) xs))
      [ true ↦ ap (λ ys. f x ∷ ys) more | false ↦ more ]

  -- at the first item that is the node n stands what the first such place has
  pub first_found : (node : Y → ℕ) (place : X → Y) (g : X → Option ℕ) (h : Y → Option ℕ) (n : ℕ) (xs : List X) → ((x : X) → In x xs → g x ≡ h (place x))
      → number_at n (map (λ x. node (place x)) xs) (map g xs) ≡ elim (find (λ y. nat_eq (node y) n) (map place xs)) as (λ o. Option ℕ) [ None ↦ None | Some y ↦ h y ]
  unfolding number_at
  first_found node place g h n [] e = refl
  first_found node place g h n (x ∷ xs) e =
      let more = first_found node place g h n xs (λ y i. e y (inr i)) in
      elim (nat_eq (node (place x)) n)
      as (λ (b : Bool). (if b then g x else number_at n (map (λ y. node (place y)) xs) (map g xs)) ≡ elim (if b then Some (place x) else find (λ y. nat_eq (node y) n) (map place xs)) as (λ o. Option ℕ) [ None ↦ None | Some y ↦ h y ])
      [ true ↦ e x (inl refl) | false ↦ more ]

module _ {X : Type 0} where
  pub items_indices : (g : X → Option ℕ) (k j : ℕ) (xs : List X) → items_of k (map g xs) (range_with_len j (length xs)) ≡ indices_from j (λ x. is_number (g x) k) xs
  unfolding items_of indices_from
  items_indices g k j [] = refl
  items_indices g k j (x ∷ xs) =
      let more = ap (λ i. items_of k (map g xs) (range_with_len i (length xs))) (add-one j) ∙ items_indices g k (suc j) xs in
      elim (is_number (g x) k) as (λ (b : Bool). (if b then j ∷ items_of k (map g xs) (range_with_len (j + 1) (length xs)) else items_of k (map g xs) (range_with_len (j + 1) (length xs))) ≡ (if b then j ∷ indices_from (suc j) (λ y. is_number (g y) k) xs else indices_from (suc j) (λ y. is_number (g y) k) xs))
      [ true ↦ ap (λ ns. j ∷ ns) more | false ↦ more ]

  pub indices_map : {Y : Type 0} (f : X → Y) (t : Y → Bool) (u : X → Bool) (j : ℕ) (xs : List X) → ((x : X) → In x xs → u x ≡ t (f x)) → indices_from j u xs ≡ indices_from j t (map f xs)
  unfolding indices_from
  indices_map f t u j [] e = refl
  indices_map f t u j (x ∷ xs) e =
      let more = indices_map f t u (suc j) xs (λ y i. e y (inr i)) in
      ap (λ (b : Bool). if b then j ∷ indices_from (suc j) u xs else indices_from (suc j) u xs) (e x (inl refl)) ∙ ap (λ ns. if t (f x) then j ∷ ns else ns) more
