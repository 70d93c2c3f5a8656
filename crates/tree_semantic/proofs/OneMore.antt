-- A new name more in the last class.
use Rattle.std.specs.Prelude.{◌≡◌, ◌<◌, ◌++◌, ◌∷◌, [], ◌&&◌, ℕ, zero, suc, Bool, true, false, nat_eq, List, length, map, get_or, Option, Some, None, cond, Result, Ok, Err, OnErr, if◌then◌else◌}
use Rattle.std.proofs.Common.{refl, sym, ap, ◌∙◌, arith, set}
use Rattle.std.proofs.lemmas.Bool.{eqb-false, eqb-true}
use Rattle.std.proofs.lemmas.Grind.{get_or-set_at}
use Rattle.std.proofs.lemmas.List.{get_or-map, get_or-set_other, length-map, map-set}

-- lists of which one item is another now, item by item
module _ {X Y : Type 0} (f : X → Option Y) (xs : List X) (i : ℕ) (x : X) (inside : i < length xs) where
  pub one_set : (k : ℕ) → get_or (map f (set xs i x)) k None ≡ (if nat_eq i k then f x else get_or (map f xs) k None)
  one_set k = ap (λ (os : List (Option Y)). get_or os k None) (map-set f xs i x) ∙ go (nat_eq i k) refl
    where
      many : length (map f xs) ≡ length xs
      many = length-map xs f

      go : (b : Bool) → nat_eq i k ≡ b → get_or (set (map f xs) i (f x)) k None ≡ (if b then f x else get_or (map f xs) k None)
      go true e = get_or-set_at (map f xs) i k (f x) None (sym (eqb-true i k e)) (omega (arith, many, inside))
      go false e = get_or-set_other (map f xs) i k (f x) None (λ s. eqb-false i k e (sym s))

-- the item says what the item before it said
pub same_set : {X Y : Type 0} (f : X → Option Y) (xs : List X) (i : ℕ) (x d : X) → i < length xs → f x ≡ f (get_or xs i d) → (k : ℕ) → get_or (map f (set xs i x)) k None ≡ get_or (map f xs) k None
same_set {X} {Y} f xs i x d inside is k = one_set f xs i x inside k ∙ go (nat_eq i k) refl
  where
    go : (b : Bool) → nat_eq i k ≡ b → (if b then f x else get_or (map f xs) k None) ≡ get_or (map f xs) k None
    go true e = is ∙ sym (get_or-map f xs i d None inside) ∙ ap (λ (j : ℕ). get_or (map f xs) j None) (eqb-true i k e)
    go false e = refl

pub on_err : {T E : Type 0} (r : Result T E) (P : Type 0) → P → OnErr r P
on_err (Ok x) P p = tt
on_err (Err e) P p = p

-- the item says of one name what it is now, and else what the item before it said
pub name_set : {X Y : Type 0} (f : X → Option Y) (xs : List X) (i : ℕ) (x d : X) (t : Bool) (y : Y) → i < length xs → f x ≡ cond t (Some y) (f (get_or xs i d))
    → (k : ℕ) → get_or (map f (set xs i x)) k None ≡ (if nat_eq i k && t then Some y else get_or (map f xs) k None)
name_set {X} {Y} f xs i x d t y inside is k = one_set f xs i x inside k ∙ go (nat_eq i k) refl
  where
    here : i ≡ k → f (get_or xs i d) ≡ get_or (map f xs) k None
    here e = sym (get_or-map f xs i d None inside) ∙ ap (λ (j : ℕ). get_or (map f xs) j None) e

    either : (b : Bool) → i ≡ k → cond b (Some y) (f (get_or xs i d)) ≡ (if b then Some y else get_or (map f xs) k None)
    either true e = refl
    either false e = here e

    go : (b : Bool) → nat_eq i k ≡ b → (if b then f x else get_or (map f xs) k None) ≡ (if (b && t) then Some y else get_or (map f xs) k None)
    go true e = is ∙ either t (eqb-true i k e)
    go false e = refl

-- a list with an item more that says nothing
pub empty_pushed : {X Y : Type 0} (f : X → Option Y) (xs : List X) (m : X) (k : ℕ) → f m ≡ None → get_or (map f (xs ++ m ∷ [])) k None ≡ get_or (map f xs) k None
empty_pushed f [] m zero e = e
empty_pushed f [] m (suc k) e = refl
empty_pushed f (x ∷ xs) m zero e = refl
empty_pushed f (x ∷ xs) m (suc k) e = empty_pushed f xs m k e
