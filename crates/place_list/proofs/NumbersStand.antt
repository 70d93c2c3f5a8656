-- What a number stands for in a table, and in the same table with one more.
use Rattle.std.proofs.Common.{◌≡◌, ℕ, zero, suc, ◌+◌, List, [], ◌∷◌, ◌++◌, length, map, slice_get, Option, Some, None, refl, sym, ap, ap₂, ◌∙◌, arith}
use Rattle.std.proofs.lemmas.List.{length-append}
use Rattle.std.specs.List.{AllByRecursion}
use Rattle.place_list.specs.Bounds.{HasVarScope}
use Rattle.place_list.specs.Tables.{head_lists, heads_from, lineages, lineages_from, list_at, or_none_listed}
use Rattle.place_list.specs.declared.tables.HeadEntry.{HeadEntry}
use Rattle.tree_places.specs.Scopes.{number_of}

-- this number stands for this list, and no number for the empty one
abbrev pub Stands : List (List ℕ) → Option ℕ → List ℕ → Type 0
Stands lists None xs = [] ≡ xs
Stands lists (Some n) xs = slice_get lists n ≡ Some xs

-- what stands for a list, stands for it in the others too
abbrev pub Grows : {X : Type 0} → List X → List X → Type 0
Grows {X = X} before after = (n : ℕ) (xs : X) → slice_get before n ≡ Some xs → slice_get after n ≡ Some xs

pub grows_not : {X : Type 0} (lists : List X) → Grows lists lists
grows_not lists n xs e = e

pub grows_on : {X : Type 0} (a b c : List X) → Grows a b → Grows b c → Grows a c
grows_on a b c f g n xs e = g n xs (f n xs e)

pub grows_push : {X : Type 0} (lists : List X) (x : X) → Grows lists (lists ++ x ∷ [])
grows_push [] x n xs e = absurd (cc)
grows_push (l ∷ ls) x zero xs e = e
grows_push (l ∷ ls) x (suc n) xs e = grows_push ls x n xs e

pub grows_to : (a b c : List (List ℕ)) → Grows a b → b ≡ c → Grows a c
grows_to a b c g e n xs s = ap (λ (ls : List (List ℕ)). slice_get ls n) (sym e) ∙ g n xs s

pub stands_on : (a b : List (List ℕ)) (o : Option ℕ) (xs : List ℕ) → Grows a b → Stands a o xs → Stands b o xs
stands_on a b None xs g s = s
stands_on a b (Some n) xs g s = g n xs s

pub has_on : (a b : List (Option ℕ)) (o v : Option ℕ) → Grows a b → HasVarScope a o v → HasVarScope b o v
has_on a b None v g h = h
has_on a b (Some n) v g h = g n v h

pub list_is : (lists : List (List ℕ)) (o : Option ℕ) (xs : List ℕ) → Stands lists o xs → list_at lists o ≡ xs
unfolding list_at or_none_listed
list_is lists None xs s = s
list_is lists (Some n) xs s = ap or_none_listed s

pub last_is : {X : Type 0} (lists : List X) (x : X) → slice_get (lists ++ x ∷ []) (length lists) ≡ Some x
last_is [] x = refl
last_is (l ∷ ls) x = last_is ls x

-- ---- lineages

line_more : List (List ℕ) → Option ℕ → List (List ℕ)
line_more before o = before ++ (length before ∷ list_at before o) ∷ []

lineages_push_from : (before : List (List ℕ)) (os : List (Option ℕ)) (o : Option ℕ) → lineages_from before (os ++ o ∷ []) ≡ line_more (lineages_from before os) o
unfolding lineages_from line_more
lineages_push_from before [] o = refl
lineages_push_from before (p ∷ os) o = lineages_push_from (before ++ (length before ∷ list_at before p) ∷ []) os o

lineages_length_from : (before : List (List ℕ)) (os : List (Option ℕ)) → length (lineages_from before os) ≡ length before + length os
unfolding lineages_from
lineages_length_from before [] = omega arith
lineages_length_from before (p ∷ os) =
    let step : length (before ++ (length before ∷ list_at before p) ∷ []) ≡ length before + 1 = length-append before ((length before ∷ list_at before p) ∷ []) in
    omega (arith, step, lineages_length_from (before ++ (length before ∷ list_at before p) ∷ []) os)

pub lineages_length : (os : List (Option ℕ)) → length (lineages os) ≡ length os
unfolding lineages
lineages_length os = let e : length (lineages_from [] os) ≡ 0 + length os = lineages_length_from [] os in omega (arith, e)

module _ (os : List (Option ℕ)) (o : Option ℕ) (xs : List ℕ) (s : Stands (lineages os) o xs) where
  -- one more in the table
  pub lineages_push : (n : ℕ) → n ≡ length os → lineages (os ++ o ∷ []) ≡ lineages os ++ (n ∷ xs) ∷ []
  unfolding lineages line_more
  lineages_push n e =
      lineages_push_from [] os o
      ∙ ap₂ (λ (k : ℕ) (ys : List ℕ). lineages os ++ (k ∷ ys) ∷ []) (lineages_length os ∙ sym e) (list_is (lineages os) o xs s)

  pub lineages_grow : Grows (lineages os) (lineages (os ++ o ∷ []))
  lineages_grow = grows_to (lineages os) (lineages os ++ (length os ∷ xs) ∷ []) (lineages (os ++ o ∷ [])) (grows_push (lineages os) (length os ∷ xs)) (sym (lineages_push (length os) refl))

  pub line_stands : (n : ℕ) → n ≡ length os → Stands (lineages (os ++ o ∷ [])) (Some (length os)) (n ∷ xs)
  line_stands n e =
      ap (λ (ls : List (List ℕ)). slice_get ls (length os)) (lineages_push n e)
      ∙ ap (slice_get (lineages os ++ (n ∷ xs) ∷ [])) (sym (lineages_length os))
      ∙ last_is (lineages os) (n ∷ xs)

-- each list of a table of lineages begins with its own number

OwnFrom : ℕ → List (List ℕ) → Type 0
OwnFrom i [] = Unit {0}
OwnFrom i (x ∷ xs) = (number_of x ≡ i ∷ []) × OwnFrom (suc i) xs

own_push : (i : ℕ) (ls : List (List ℕ)) (x : List ℕ) → OwnFrom i ls → number_of x ≡ (i + length ls) ∷ [] → OwnFrom i (ls ++ x ∷ [])
unfolding OwnFrom
own_push i [] x h e = (let z : i + 0 ≡ i = omega arith in e ∙ ap (λ (k : ℕ). k ∷ []) z, tt)
own_push i (l ∷ ls) x h e = (h.0, own_push (suc i) ls x h.1 (let z : i + suc (length ls) ≡ suc i + length ls = omega arith in e ∙ ap (λ (k : ℕ). k ∷ []) z))

own_from : (before : List (List ℕ)) (os : List (Option ℕ)) → OwnFrom 0 before → OwnFrom 0 (lineages_from before os)
unfolding lineages_from number_of
own_from before [] h = h
own_from before (o ∷ os) h =
    own_from (before ++ (length before ∷ list_at before o) ∷ []) os
    (own_push 0 before (length before ∷ list_at before o) h (let z : length before ≡ 0 + length before = omega arith in ap (λ (k : ℕ). k ∷ []) z))

own_at : (i : ℕ) (ls : List (List ℕ)) (k : ℕ) (x : List ℕ) → OwnFrom i ls → slice_get ls k ≡ Some x → number_of x ≡ (i + k) ∷ []
unfolding OwnFrom
own_at i [] k x h e = absurd (cc)
own_at i (l ∷ ls) zero x h e =
    let same : l ≡ x = cc in
    let z : i ≡ i + 0 = omega arith in
    ap number_of (sym same) ∙ h.0 ∙ ap (λ (n : ℕ). n ∷ []) z
own_at i (l ∷ ls) (suc k) x h e =
    let z : suc i + k ≡ i + suc k = omega arith in
    own_at (suc i) ls k x h.1 e ∙ ap (λ (n : ℕ). n ∷ []) z

pub own_number : (os : List (Option ℕ)) (k : ℕ) (x : List ℕ) → slice_get (lineages os) k ≡ Some x → number_of x ≡ k ∷ []
unfolding lineages OwnFrom
own_number os k x e =
    let z : 0 + k ≡ k = omega arith in
    own_at 0 (lineages os) k x (own_from [] os tt) e ∙ ap (λ (n : ℕ). n ∷ []) z

-- ---- heads

head_more : List (List ℕ) → HeadEntry → List (List ℕ)
head_more before h = before ++ (h.scope ∷ list_at before h.parent) ∷ []

heads_push_from : (before : List (List ℕ)) (hs : List HeadEntry) (h : HeadEntry) → heads_from before (hs ++ h ∷ []) ≡ head_more (heads_from before hs) h
unfolding heads_from head_more
heads_push_from before [] h = refl
heads_push_from before (g ∷ hs) h = heads_push_from (before ++ (g.scope ∷ list_at before g.parent) ∷ []) hs h

heads_length_from : (before : List (List ℕ)) (hs : List HeadEntry) → length (heads_from before hs) ≡ length before + length hs
unfolding heads_from
heads_length_from before [] = omega arith
heads_length_from before (g ∷ hs) =
    let step : length (before ++ (g.scope ∷ list_at before g.parent) ∷ []) ≡ length before + 1 = length-append before ((g.scope ∷ list_at before g.parent) ∷ []) in
    omega (arith, step, heads_length_from (before ++ (g.scope ∷ list_at before g.parent) ∷ []) hs)

pub head_length : (hs : List HeadEntry) → length (head_lists hs) ≡ length hs
unfolding head_lists
head_length hs = let e : length (heads_from [] hs) ≡ 0 + length hs = heads_length_from [] hs in omega (arith, e)

module _ (hs : List HeadEntry) (h : HeadEntry) (xs : List ℕ) (s : Stands (head_lists hs) h.parent xs) where
  heads_push : head_lists (hs ++ h ∷ []) ≡ head_lists hs ++ (h.scope ∷ xs) ∷ []
  unfolding head_lists head_more
  heads_push = heads_push_from [] hs h ∙ ap (λ (ys : List ℕ). head_lists hs ++ (h.scope ∷ ys) ∷ []) (list_is (head_lists hs) h.parent xs s)

  pub heads_grow : Grows (head_lists hs) (head_lists (hs ++ h ∷ []))
  heads_grow = grows_to (head_lists hs) (head_lists hs ++ (h.scope ∷ xs) ∷ []) (head_lists (hs ++ h ∷ [])) (grows_push (head_lists hs) (h.scope ∷ xs)) (sym heads_push)

  pub head_stands : Stands (head_lists (hs ++ h ∷ [])) (Some (length hs)) (h.scope ∷ xs)
  head_stands =
      ap (λ (ls : List (List ℕ)). slice_get ls (length hs)) heads_push
      ∙ ap (slice_get (head_lists hs ++ (h.scope ∷ xs) ∷ [])) (sym (head_length hs))
      ∙ last_is (head_lists hs) (h.scope ∷ xs)

-- ---- two lists beside one another

abbrev pub Beside : {A B : Type 0} → (A → B → Type 0) → List A → List B → Type 0
Beside R [] [] = Unit {0}
Beside R [] (b ∷ vs) = ⊥
Beside R (a ∷ us) [] = ⊥
Beside R (a ∷ us) (b ∷ vs) = R a b × Beside R us vs

pub beside_push : {A B : Type 0} (R : A → B → Type 0) (xs : List A) (ys : List B) (x : A) (y : B) → Beside R xs ys → R x y → Beside R (xs ++ x ∷ []) (ys ++ y ∷ [])
beside_push R [] [] x y h r = (r, tt)
beside_push R [] (b ∷ vs) x y h r = absurd h
beside_push R (a ∷ us) [] x y h r = absurd h
beside_push R (a ∷ us) (b ∷ vs) x y h r = (h.0, beside_push R us vs x y h.1 r)

pub beside_on : {A B : Type 0} (R Q : A → B → Type 0) (xs : List A) (ys : List B) → ((x : A) (y : B) → R x y → Q x y) → Beside R xs ys → Beside Q xs ys
beside_on R Q [] [] f h = tt
beside_on R Q [] (b ∷ vs) f h = h
beside_on R Q (a ∷ us) [] f h = h
beside_on R Q (a ∷ us) (b ∷ vs) f h = (f a b h.0, beside_on R Q us vs f h.1)

pub beside_is : {A B : Type 0} (R : A → B → Type 0) (g : A → B) (xs : List A) (ys : List B) → ((x : A) (y : B) → R x y → g x ≡ y) → Beside R xs ys → map g xs ≡ ys
beside_is R g [] [] f h = refl
beside_is R g [] (b ∷ vs) f h = absurd h
beside_is R g (a ∷ us) [] f h = absurd h
beside_is {B = B} R g (a ∷ us) (b ∷ vs) f h = ap₂ (λ (y : B) (ys : List B). y ∷ ys) (f a b h.0) (beside_is R g us vs f h.1)

pub beside_same : {A B C : Type 0} (R : A → B → Type 0) (g : A → C) (h : B → C) (xs : List A) (ys : List B) → ((x : A) (y : B) → R x y → g x ≡ h y) → Beside R xs ys → map g xs ≡ map h ys
beside_same R g h [] [] f b = refl
beside_same R g h [] (y ∷ vs) f b = absurd b
beside_same R g h (x ∷ us) [] f b = absurd b
beside_same {C = C} R g h (x ∷ us) (y ∷ vs) f b = ap₂ (λ (z : C) (zs : List C). z ∷ zs) (f x y b.0) (beside_same R g h us vs f b.1)

pub beside_all : {A B : Type 0} (R : A → B → Type 0) (P : A → Type 0) (xs : List A) (ys : List B) → ((x : A) (y : B) → R x y → P x) → Beside R xs ys → AllByRecursion P xs
beside_all R P [] [] f h = tt
beside_all R P [] (b ∷ vs) f h = absurd h
beside_all R P (a ∷ us) [] f h = absurd h
beside_all R P (a ∷ us) (b ∷ vs) f h = (f a b h.0, beside_all R P us vs f h.1)
