-- Rows with an entry more.
use Rattle.std.specs.Prelude.{◌≡◌, ◌+◌, ◌<◌, ℕ, zero, suc, Bool, true, false, List, [], ◌∷◌, ◌++◌, length, map, take, get_or, filter, if◌then◌else◌}
use Rattle.std.specs.List.{AllByRecursion, range_with_len}
use Rattle.std.proofs.Common.{refl, sym, ap, ◌∙◌, arith}
use Rattle.std.proofs.lemmas.List.{append-nil, map-append, take_more}
use Rattle.std.proofs.lemmas.List.Elements.{filter-append}
use Rattle.std.proofs.lemmas.List.FromFn.{map-range_with_len_more}

one_or_none : {X : Type 0} (b : Bool) (x : X) (ys : List X) → ys ++ (if b then x ∷ [] else []) ≡ (if b then ys ++ x ∷ [] else ys)
one_or_none true x ys = refl
one_or_none false x ys = append-nil ys

-- an item more, which passes or not
filter_more : {X : Type 0} (t : X → Bool) (xs : List X) (i : ℕ) (d : X) → i < length xs
    → filter t (take (i + 1) xs) ≡ (if t (get_or xs i d) then filter t (take i xs) ++ get_or xs i d ∷ [] else filter t (take i xs))
filter_more t xs i d h =
    ap (filter t) (take_more xs i d h) ∙ filter-append t (take i xs) (get_or xs i d ∷ []) ∙ one_or_none (t (get_or xs i d)) (get_or xs i d) (filter t (take i xs))

pub found_more : {X : Type 0} (t : X → Bool) (xs : List X) (i : ℕ) (d : X) → i < length xs → (ys zs : List X) (b : Bool) → b ≡ t (get_or xs i d) → ys ≡ filter t (take i xs)
    → zs ≡ (if b then ys ++ get_or xs i d ∷ [] else ys) → zs ≡ filter t (take (i + 1) xs)
found_more {X} t xs i d h ys zs b e f g =
    g ∙ ap (λ (c : Bool). if c then ys ++ get_or xs i d ∷ [] else ys) e ∙ ap (λ (ws : List X). if t (get_or xs i d) then ws ++ get_or xs i d ∷ [] else ws) f
    ∙ sym (filter_more t xs i d h)

map_itself : (ns : List ℕ) → map (λ (n : ℕ). n) ns ≡ ns
map_itself [] = refl
map_itself (n ∷ ns) = ap (λ ms. n ∷ ms) (map_itself ns)

range_more : (n : ℕ) → range_with_len 0 (n + 1) ≡ range_with_len 0 n ++ n ∷ []
range_more n =
    sym (map_itself (range_with_len 0 (n + 1))) ∙ map-range_with_len_more (λ (k : ℕ). k) 0 n n (omega arith) ∙ ap (λ ns. ns ++ n ∷ []) (map_itself (range_with_len 0 n))

-- ids with an id more, whose numbers are those of a range
pub ids_more : {X : Type 0} (number : X → ℕ) (xs : List X) (x : X) (ys : List X) (n : ℕ) → map number xs ≡ range_with_len 0 n → number x ≡ n → ys ≡ xs ++ x ∷ [] → map number ys ≡ range_with_len 0 (n + 1)
ids_more number xs x ys n e f g =
    ap (map number) g ∙ map-append number xs (x ∷ []) ∙ ap (λ ns. ns ++ number x ∷ []) e ∙ ap (λ k. range_with_len 0 n ++ k ∷ []) f ∙ sym (range_more n)

-- views with a view more
pub views_more : {X Y Z : Type 0} (view : X → Z) (f : Y → Z) (ks : List Y) (i : ℕ) (d : Y) → i < length ks
    → (xs : List X) (x : X) (ys : List X) → map view xs ≡ map f (take i ks) → view x ≡ f (get_or ks i d) → ys ≡ xs ++ x ∷ [] → map view ys ≡ map f (take (i + 1) ks)
views_more view f ks i d h xs x ys e q g =
    ap (map view) g ∙ map-append view xs (x ∷ []) ∙ ap (λ zs. zs ++ view x ∷ []) e ∙ ap (λ z. map f (take i ks) ++ z ∷ []) q
    ∙ sym (ap (map f) (take_more ks i d h) ∙ map-append f (take i ks) (get_or ks i d ∷ []))

-- or numbers with a number more
pub numbers_more : {X Y : Type 0} (number : X → ℕ) (f : Y → ℕ) (ks : List Y) (i : ℕ) (d : Y) → i < length ks
    → (xs : List X) (x : X) (ys : List X) → map number xs ≡ map f (take i ks) → number x ≡ f (get_or ks i d) → ys ≡ xs ++ x ∷ [] → map number ys ≡ map f (take (i + 1) ks)
numbers_more = views_more

-- what holds of all holds of one
pub below_mapped : {Y : Type 0} (f : Y → ℕ) (n : ℕ) (ks : List Y) (i : ℕ) (d : Y) → AllByRecursion (λ k. k < n) (map f ks) → i < length ks → f (get_or ks i d) < n
below_mapped f n [] i d a h = absurd (omega (arith, h))
below_mapped f n (k ∷ ks) zero d a h = a.0
below_mapped f n (k ∷ ks) (suc i) d a h = below_mapped f n ks i d a.1 (omega (arith, h))

pub holds_at : {Y : Type 0} (P : Y → Type 0) (ks : List Y) (i : ℕ) (d : Y) → AllByRecursion P ks → i < length ks → P (get_or ks i d)
holds_at P [] i d a h = absurd (omega (arith, h))
holds_at P (k ∷ ks) zero d a h = a.0
holds_at P (k ∷ ks) (suc i) d a h = holds_at P ks i d a.1 (omega (arith, h))
