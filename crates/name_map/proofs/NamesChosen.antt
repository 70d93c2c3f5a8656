-- Choices that give the names of a list to its places.
use Rattle.std.proofs.Common.{◌≡◌, ℕ, zero, suc, ◌+◌, ◌<◌, ◌≤◌, ◌^◌, nat_lt, Bool, true, false, not, ◌&&◌, ◌||◌, List, [], ◌∷◌, length, map, drop, replicate, Option, Some, None, is_some, slice_get, slice_set, String, IsTrue, string_bytes, refl, sym, ap, ap₂, subst, ◌∙◌, arith}
use Rattle.std.proofs.lemmas.Bool.{ltb-true}
use Rattle.std.proofs.lemmas.List.{length-map, length-replicate, length-set}
use Rattle.std.specs.List.{AllByRecursion}
use Rattle.name_map.specs.Choices.{choose}
use Rattle.name_map.specs.Fits.{is_off, is_old_name, name_fits, names_fit}
use Rattle.name_map.specs.Undoing.{OldName, put_names}
use Rattle.syntax_lex.specs.Identifier.{is_identifier_name}
use Rattle.tree_nodes.proofs.Cases.{both}
use Rattle.tree_nodes.specs.Tree.{Text}
use Rattle.tree_places.specs.Chosen.{chosen, given_name, or_own, spare_plain}
use Rattle.tree_places.specs.Places.{Site}
use Rattle.tree_places.specs.Renaming.{is_plain}
use Rattle.tree_rename.specs.Laws.{IsShort}

-- ---- what fitting names are

pub record FitsPlace (plain : List Bool) (o : OldName) : Type 0 where
  pub free : is_off (slice_get plain o.place) ≡ true
  pub name : is_identifier_name o.name ≡ true
  pub short : IsShort o.name

below : (n m : ℕ) → nat_lt n m ≡ true → n < m
below n m h = ltb-true n m h

fits_place : (plain : List Bool) (n : ℕ) (o : OldName) → name_fits plain n o ≡ true → FitsPlace plain o
unfolding is_old_name name_fits
fits_place plain n o h =
    let a = both _ (is_old_name o.name) h in
    let b = both _ (is_off (slice_get plain o.place)) a.0 in
    let c = both (nat_lt (length o.name) (2 ^ 32)) (is_identifier_name o.name) a.1 in
    record { free = b.1; name = c.1; short = below (length o.name) (2 ^ 32) c.0 }

-- of each name of a list that fits
pub all_fit : (plain : List Bool) (n : ℕ) (os : List OldName) → names_fit plain n os ≡ true → AllByRecursion (FitsPlace plain) os
unfolding names_fit
all_fit plain n [] h = tt
all_fit plain n (o ∷ os) h =
    let parts = both (name_fits plain n o) (names_fit plain (suc o.place) os) h in
    (fits_place plain n o parts.0, all_fit plain (suc o.place) os parts.1)

pub off_within : (bs : List Bool) (i : ℕ) → is_off (slice_get bs i) ≡ true → i < length bs
off_within [] i h = absurd (cc)
off_within (b ∷ bs) zero h = omega arith
off_within (b ∷ bs) (suc i) h = let l = off_within bs i h in omega (arith, l)

-- ---- one choice more

chosen_set : (given : List Text) (cs : List (Option ℕ)) (i k : ℕ) (y : Text) (xs : List Text) → slice_get given k ≡ Some y → i < length cs
    → chosen given (slice_set cs i (Some k)) xs ≡ slice_set (chosen given cs xs) i y
unfolding chosen given_name or_own
chosen_set given cs i k y [] e l = refl
chosen_set given [] i k y (x ∷ xs) e l = absurd (omega (arith, l))
chosen_set given (c ∷ cs) zero k y (x ∷ xs) e l = ap (λ o. or_own o x ∷ chosen given cs xs) e
chosen_set given (None ∷ cs) (suc i) k y (x ∷ xs) e l = ap (λ ys. x ∷ ys) (chosen_set given cs i k y xs e (omega (arith, l)))
chosen_set given (Some j ∷ cs) (suc i) k y (x ∷ xs) e l = ap (λ ys. or_own (slice_get given j) x ∷ ys) (chosen_set given cs i k y xs e (omega (arith, l)))

first_there : (given : List Text) (k : ℕ) (y : Text) (ys : List Text) → drop k given ≡ y ∷ ys → (slice_get given k ≡ Some y) × (drop (suc k) given ≡ ys)
first_there [] zero y ys e = absurd (cc)
first_there [] (suc k) y ys e = absurd (cc)
first_there (x ∷ xs) zero y ys e = (cc, cc)
first_there (x ∷ xs) (suc k) y ys e = first_there xs k y ys e

chosen_names : (plain : List Bool) (given : List Text) (k : ℕ) (os : List OldName) (cs : List (Option ℕ)) (xs : List Text) → AllByRecursion (FitsPlace plain) os
    → drop k given ≡ map (λ o. o.name) os → length cs ≡ length plain
    → chosen given (choose k os cs) xs ≡ put_names os (chosen given cs xs)
unfolding choose put_names
chosen_names plain given k [] cs xs a d l = refl
chosen_names plain given k (o ∷ os) cs xs a d l =
    let here = first_there given k o.name (map (λ p. p.name) os) d in
    let within = off_within plain o.place (a.0).free in
    chosen_names plain given (suc k) os (slice_set cs o.place (Some k)) xs a.1 here.1 (length-set cs o.place (Some k) ∙ l)
    ∙ ap (put_names os) (chosen_set given cs o.place k o.name xs here.0 (omega (arith, within, l)))

chosen_none : (given : List Text) (n : ℕ) (xs : List Text) → chosen given (replicate n None) xs ≡ xs
unfolding chosen given_name or_own
chosen_none given n [] = refl
chosen_none given zero (x ∷ xs) = ap (λ ys. x ∷ ys) (chosen_none given zero xs)
chosen_none given (suc n) (x ∷ xs) = ap (λ ys. x ∷ ys) (chosen_none given n xs)

-- ---- plain names stay

spare_set : (ss : List Site) (cs : List (Option ℕ)) (i k : ℕ) → spare_plain ss cs ≡ true → is_off (slice_get (map is_plain ss) i) ≡ true
    → spare_plain ss (slice_set cs i (Some k)) ≡ true
unfolding spare_plain
spare_set ss [] i k s h = s
spare_set [] (c ∷ cs) i k s h = absurd (cc)
spare_set (t ∷ ss) (c ∷ cs) zero k s h =
    let parts = both (not (is_plain t) || not (is_some c)) (spare_plain ss cs) s in
    rw (h, parts.1) refl
spare_set (t ∷ ss) (c ∷ cs) (suc i) k s h =
    let parts = both (not (is_plain t) || not (is_some c)) (spare_plain ss cs) s in
    rw (parts.0, spare_set ss cs i k parts.1 h) refl

spare_names : (ss : List Site) (k : ℕ) (os : List OldName) (cs : List (Option ℕ)) → AllByRecursion (FitsPlace (map is_plain ss)) os → spare_plain ss cs ≡ true
    → spare_plain ss (choose k os cs) ≡ true
unfolding choose
spare_names ss k [] cs a s = s
spare_names ss k (o ∷ os) cs a s = spare_names ss (suc k) os (slice_set cs o.place (Some k)) a.1 (spare_set ss cs o.place k s (a.0).free)

spare_none : (ss : List Site) (n : ℕ) → spare_plain ss (replicate n None) ≡ true
unfolding spare_plain
spare_none ss zero = refl
spare_none [] (suc n) = refl
spare_none (s ∷ ss) (suc n) = by_test (is_plain s) (spare_none ss n)
  where
    by_test : (b : Bool) → spare_plain ss (replicate n None) ≡ true → ((not b || true) && spare_plain ss (replicate n None)) ≡ true
    by_test true e = e
    by_test false e = e

-- ---- the facts

pub spares : (ss : List Site) (n : ℕ) (os : List OldName) → names_fit (map is_plain ss) 0 os ≡ true → IsTrue (spare_plain ss (choose 0 os (replicate n None)))
spares ss n os h = spare_names ss 0 os (replicate n None) (all_fit (map is_plain ss) 0 os h) (spare_none ss n)

pub gives : (ss : List Site) (n : ℕ) (os : List OldName) (given xs : List Text) → names_fit (map is_plain ss) 0 os ≡ true → given ≡ map (λ o. o.name) os → n ≡ length ss
    → chosen given (choose 0 os (replicate n None)) xs ≡ put_names os xs
gives ss n os given xs h e l =
    chosen_names (map is_plain ss) given 0 os (replicate n None) xs (all_fit (map is_plain ss) 0 os h) e (length-replicate n None ∙ l ∙ sym (length-map ss is_plain))
    ∙ ap (put_names os) (chosen_none given n xs)

texts_named : {Z : Type 0} (plain : List Bool) (ss : List (String Z)) (os : List OldName) → AllByRecursion (FitsPlace plain) os → map string_bytes ss ≡ map (λ o. o.name) os
    → AllByRecursion (λ s. IsTrue (is_identifier_name (string_bytes s))) ss
texts_named plain [] os a e = tt
texts_named plain (s ∷ ss) [] a e = absurd (cc)
texts_named plain (s ∷ ss) (o ∷ os) a e =
    let same : string_bytes s ≡ o.name = cc in
    (ap is_identifier_name same ∙ (a.0).name, texts_named plain ss os a.1 (cc))

pub texts_are_identifiers : {Z : Type 0} (plain : List Bool) (ss : List (String Z)) (os : List OldName) → names_fit plain 0 os ≡ true → map string_bytes ss ≡ map (λ o. o.name) os
    → AllByRecursion (λ s. IsTrue (is_identifier_name (string_bytes s))) ss
texts_are_identifiers plain ss os h e = texts_named plain ss os (all_fit plain 0 os h) e

texts_short : {Z : Type 0} (plain : List Bool) (ss : List (String Z)) (os : List OldName) → AllByRecursion (FitsPlace plain) os → map string_bytes ss ≡ map (λ o. o.name) os
    → AllByRecursion (λ s. length (string_bytes s) < 2 ^ 32) ss
texts_short plain [] os a e = tt
texts_short plain (s ∷ ss) [] a e = absurd (cc)
texts_short plain (s ∷ ss) (o ∷ os) a e =
    let same : string_bytes s ≡ o.name = cc in
    (subst IsShort (sym same) (a.0).short, texts_short plain ss os a.1 (cc))

pub texts_are_short : {Z : Type 0} (plain : List Bool) (ss : List (String Z)) (os : List OldName) → names_fit plain 0 os ≡ true → map string_bytes ss ≡ map (λ o. o.name) os
    → AllByRecursion (λ s. length (string_bytes s) < 2 ^ 32) ss
texts_are_short plain ss os h e = texts_short plain ss os (all_fit plain 0 os h) e
