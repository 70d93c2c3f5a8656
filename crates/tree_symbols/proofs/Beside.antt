-- Lists that agree under two views, item by item.
use Rattle.std.specs.Prelude.{◌≡◌, ◌<◌, ℕ, zero, suc, List, [], ◌∷◌, length, map, drop, get_or, IfSome, slice_get}
use Rattle.std.proofs.Common.{refl, sym, ap, ◌∙◌, arith}

heads_agree : {Z : Type 0} (a b : Z) (cs ds : List Z) → a ∷ cs ≡ b ∷ ds → a ≡ b
heads_agree a b cs ds e = cc

tails_agree : {Z : Type 0} (a b : Z) (cs ds : List Z) → a ∷ cs ≡ b ∷ ds → cs ≡ ds
tails_agree a b cs ds e = cc

never_empty : {Z : Type 0} (a : Z) (cs : List Z) → a ∷ cs ≡ [] → ⊥
never_empty a cs e = cc

pub read_beside : {X Y Z : Type 0} (f : X → Z) (g : Y → Z) (xs : List X) (ys : List Y) (k : ℕ) (x : X) → map f xs ≡ map g ys → k < length xs → x ≡ get_or xs k x → IfSome (slice_get ys k) (λ y. f x ≡ g y)
read_beside f g [] ys k x e h r = absurd (omega (arith, h))
read_beside f g (a ∷ xs) [] k x e h r = absurd (never_empty (f a) (map f xs) e)
read_beside f g (a ∷ xs) (b ∷ ys) zero x e h r = ap f r ∙ heads_agree (f a) (g b) (map f xs) (map g ys) e
read_beside f g (a ∷ xs) (b ∷ ys) (suc k) x e h r = read_beside f g xs ys k x (tails_agree (f a) (g b) (map f xs) (map g ys) e) (omega (arith, h)) r

-- the same of what is told by what was read
pub told_beside : {X Y Z : Type 0} (f : X → Z) (g : Y → Z) (xs : List X) (ys : List Y) (k : ℕ) (x : X) (z : Z) → map f xs ≡ map g ys → k < length xs → x ≡ get_or xs k x → z ≡ f x → IfSome (slice_get ys k) (λ y. z ≡ g y)
told_beside f g [] ys k x z e h r t = absurd (omega (arith, h))
told_beside f g (a ∷ xs) [] k x z e h r t = absurd (never_empty (f a) (map f xs) e)
told_beside f g (a ∷ xs) (b ∷ ys) zero x z e h r t = t ∙ ap f r ∙ heads_agree (f a) (g b) (map f xs) (map g ys) e
told_beside f g (a ∷ xs) (b ∷ ys) (suc k) x z e h r t = told_beside f g xs ys k x z (tails_agree (f a) (g b) (map f xs) (map g ys) e) (omega (arith, h)) r t

-- as many
pub same_count : {X Y Z : Type 0} (f : X → Z) (g : Y → Z) (xs : List X) (ys : List Y) → map f xs ≡ map g ys → length xs ≡ length ys
same_count f g [] [] e = refl
same_count f g (x ∷ xs) [] e = absurd (never_empty (f x) (map f xs) e)
same_count f g [] (y ∷ ys) e = absurd (never_empty (g y) (map g ys) (sym e))
same_count f g (x ∷ xs) (y ∷ ys) e = ap (λ (n : ℕ). suc n) (same_count f g xs ys (tails_agree (f x) (g y) (map f xs) (map g ys) e))

pub drop_one_map : {X Y : Type 0} (f : X → Y) (xs : List X) → map f (drop 1 xs) ≡ drop 1 (map f xs)
drop_one_map f [] = refl
drop_one_map f (x ∷ xs) = refl
