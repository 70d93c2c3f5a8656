-- A set of the numbers that places mark, one place after another.
use Rattle.std.specs.Prelude.{◌≡◌, ◌+◌, ◌<◌, ◌≤◌, ℕ, Bool, true, false, cond, ◌||◌, nat_eq, List, [], ◌∷◌, get_or, length, map, take, Option, slice_get, Some}
use Rattle.std.specs.List.{list_any}
use Rattle.std.specs.Ordering.{is_eq, nat_cmp}
use Rattle.std.proofs.Common.{refl, sym, ap, ◌∙◌, take_all}
use Rattle.std.proofs.lemmas.List.Folds.{list_any-append, list_any_more}
use Rattle.list_laws.proofs.AnyOf.{any_map}
use Rattle.scope_tables.proofs.BoundPlaces.{take_read}
use Rattle.scope_tables.proofs.Puts.{is_eq_numbers}
use Rattle.scope_rules.specs.Bindings.{is_node}

-- a key is set, by its number
pub set_at : {V : Type 0} (k n : ℕ) (v old : V) → cond (is_eq (nat_cmp k n)) v old ≡ cond (nat_eq k n) v old
set_at k n v old = ap (λ (t : Bool). cond t v old) (is_eq_numbers k n)

-- a number is put in, or none
pub put_number : (t b : Bool) → cond t true b ≡ (b || t)
put_number true true = refl
put_number true false = refl
put_number false true = refl
put_number false false = refl

pub or_false : (b : Bool) → b ≡ (b || false)
or_false true = refl
or_false false = refl

-- what one place more marks
pub marked_more : {X : Type 0} (mark : X → Bool) (xs : List X) (i : ℕ) (x : X) → slice_get xs i ≡ Some x → (old new : Bool) → old ≡ list_any mark (take i xs)
    → (o : Option ℕ) (n : ℕ) → is_node o n ≡ mark x → new ≡ (old || is_node o n) → new ≡ list_any mark (take (i + 1) xs)
marked_more mark xs i x read old new so_far o n told puts =
    puts
    ∙ ap (λ (b : Bool). b || is_node o n) so_far
    ∙ ap (λ (b : Bool). list_any mark (take i xs) || b) (told ∙ or_false (mark x))
    ∙ sym (ap (list_any mark) (take_read xs i x read) ∙ list_any-append mark (take i xs) (x ∷ []))

module _ {X Y : Type 0} (view : X → Y) (mark : Y → Bool) (xs : List X) (i : ℕ) where
  -- with the place at i: of one number
  pub viewed_more : (d : X) → i < length xs → (old new : Bool) → old ≡ list_any (λ x. mark (view x)) (take i xs)
      → (o : Option ℕ) (n : ℕ) → is_node o n ≡ mark (view (get_or xs i d)) → new ≡ (old || is_node o n) → new ≡ list_any (λ x. mark (view x)) (take (i + 1) xs)
  viewed_more d h old new so_far o n told puts =
      puts
      ∙ ap (λ (b : Bool). b || is_node o n) so_far
      ∙ ap (λ (b : Bool). list_any (λ x. mark (view x)) (take i xs) || b) told
      ∙ sym (list_any_more (λ x. mark (view x)) xs i d h)

  -- with all of them
  pub viewed_all : length xs ≤ i → (old : Bool) → old ≡ list_any (λ x. mark (view x)) (take i xs) → old ≡ list_any mark (map view xs)
  viewed_all h old so_far = so_far ∙ ap (list_any (λ x. mark (view x))) (take_all i xs h) ∙ sym (any_map view mark xs)
