-- A map of what the first places that pass say, one place after another: of one key.
use Rattle.std.specs.Prelude.{◌≡◌, ◌+◌, ◌<◌, ◌≤◌, ℕ, Bool, true, false, cond, List, [], ◌∷◌, ◌++◌, length, map, take, get_or, Option, Some, None, is_some, option_map, find, if◌then◌else◌}
use Rattle.std.proofs.Common.{refl, sym, ap, ◌∙◌, take_all}
use Rattle.std.proofs.lemmas.Bool.{both_ways}
use Rattle.std.proofs.lemmas.List.{map-append, take_more}
use Rattle.scope_rules.specs.Bindings.{or_else}

-- ---- one key is set where it isn't yet: t is whether a key is that one

pub put_absent : {V : Type 0} (t : Bool) (o : Option V) (v : V) → (t ≡ true → is_some o ≡ false) → cond t (Some v) o ≡ or_else o (if t then Some v else None)
unfolding or_else
put_absent true None v h = refl
put_absent true (Some w) v h = absurd (both_ways _ (h refl) refl)
put_absent false None v h = refl
put_absent false (Some w) v h = refl

pub put_present : {V : Type 0} (t : Bool) (o : Option V) (v : V) → (t ≡ true → is_some o ≡ true) → o ≡ or_else o (if t then Some v else None)
unfolding or_else
put_present true None v h = absurd (both_ways _ refl (h refl))
put_present true (Some w) v h = refl
put_present false None v h = refl
put_present false (Some w) v h = refl

pub nothing_more : {V : Type 0} (o : Option V) → o ≡ or_else o None
unfolding or_else
nothing_more None = refl
nothing_more (Some v) = refl

pub same_where : {V : Type 0} (t : Bool) (v w : V) → (t ≡ true → v ≡ w) → ◌≡◌ {A = Option V} (if t then Some v else None) (if t then Some w else None)
same_where true v w s = ap (λ x. Some x) (s refl)
same_where false v w s = refl

-- ---- the first that passes

module _ {Y V : Type 0} (test : Y → Bool) (value : Y → V) where
  -- with one more
  first_after : (ys : List Y) (y : Y) → option_map value (find test (ys ++ y ∷ [])) ≡ or_else (option_map value (find test ys)) (if test y then Some (value y) else None)
  unfolding or_else
  first_after [] y = go (test y)
    where
      go : (t : Bool) → option_map value (cond t (Some y) None) ≡ or_else None (if t then Some (value y) else None)
      go true = refl
      go false = refl
  first_after (x ∷ ys) y = go (test x) (first_after ys y)
    where
      go : (t : Bool) → option_map value (find test (ys ++ y ∷ [])) ≡ or_else (option_map value (find test ys)) (if test y then Some (value y) else None)
          → option_map value (cond t (Some x) (find test (ys ++ y ∷ []))) ≡ or_else (option_map value (cond t (Some x) (find test ys))) (if test y then Some (value y) else None)
      go true ih = refl
      go false ih = ih

  module _ {X : Type 0} (view : X → Y) (xs : List X) (i : ℕ) where
    pub first_more : (d : X) → i < length xs → (old new : Option V) → old ≡ option_map value (find test (map view (take i xs)))
        → (t : Bool) (v : V) → t ≡ test (view (get_or xs i d)) → (t ≡ true → v ≡ value (view (get_or xs i d))) → new ≡ or_else old (if t then Some v else None)
        → new ≡ option_map value (find test (map view (take (i + 1) xs)))
    first_more d h old new so_far t v told said puts =
        puts
        ∙ ap (λ (o : Option V). or_else o (if t then Some v else None)) so_far
        ∙ ap (or_else (option_map value (find test (map view (take i xs))))) (go t said)
        ∙ ap (λ (b : Bool). or_else (option_map value (find test (map view (take i xs)))) (if b then Some (value (view (get_or xs i d))) else None)) told
        ∙ sym (ap (λ ys. option_map value (find test ys)) (ap (map view) (take_more xs i d h) ∙ map-append view (take i xs) (get_or xs i d ∷ [])) ∙ first_after (map view (take i xs)) (view (get_or xs i d)))
      where
        go : (u : Bool) → (u ≡ true → v ≡ value (view (get_or xs i d))) → ◌≡◌ {A = Option V} (if u then Some v else None) (if u then Some (value (view (get_or xs i d))) else None)
        go true s = ap (λ (w : V). Some w) (s refl)
        go false s = refl

    -- the place at i doesn't pass
    pub first_stays : (d : X) → i < length xs → (old : Option V) → old ≡ option_map value (find test (map view (take i xs)))
        → test (view (get_or xs i d)) ≡ false → old ≡ option_map value (find test (map view (take (i + 1) xs)))
    first_stays d h old so_far told = first_more d h old old so_far false (value (view (get_or xs i d))) (sym told) (λ e. absurd (both_ways _ refl e)) (nothing_more old)

    pub first_of_all : length xs ≤ i → (old : Option V) → old ≡ option_map value (find test (map view (take i xs))) → old ≡ option_map value (find test (map view xs))
    first_of_all h old so_far = so_far ∙ ap (λ ys. option_map value (find test (map view ys))) (take_all i xs h)
