-- What lies outside comes first in a table.
use Rattle.std.proofs.Common.{◌≡◌, ◌<◌, ℕ, zero, suc, ◌+◌, List, [], ◌∷◌, ◌++◌, length, map, slice_get, Option, Some, None, refl, sym, ap, subst, ◌∙◌, arith}
use Rattle.std.specs.List.{AllByRecursion}
use Rattle.std.proofs.lemmas.List.{length-append, length-map, map-append}
use Rattle.place_list.proofs.NumbersStand.{Grows, Stands, grows_push, grows_on, head_length, last_is, lineages_length, list_is}
use Rattle.place_list.specs.Bounds.{ComesBefore, IsBelow}
use Rattle.place_list.specs.Tables.{head_lists, heads_from, lineages, lineages_from, list_at}
use Rattle.place_list.specs.declared.tables.HeadEntry.{HeadEntry}
use Rattle.list_laws.proofs.AllOf.{AllOf_push}

-- from the number i on
pub RiseFrom : ℕ → List (Option ℕ) → Type 0
RiseFrom i [] = Unit {0}
RiseFrom i (o ∷ os) = IsBelow i o × RiseFrom (suc i) os

below_same : (m n : ℕ) (o : Option ℕ) → m ≡ n → IsBelow m o → IsBelow n o
below_same m n None e h = tt
below_same m n (Some k) e h = omega (arith, e, h)

rise_push_from : (i : ℕ) (os : List (Option ℕ)) (o : Option ℕ) → RiseFrom i os → IsBelow (i + length os) o → RiseFrom i (os ++ o ∷ [])
unfolding RiseFrom
rise_push_from i [] o r h = (let z : i + 0 ≡ i = omega arith in below_same (i + 0) i o z h, tt)
rise_push_from i (p ∷ os) o r h = (r.0, rise_push_from (suc i) os o r.1 (let z : i + suc (length os) ≡ suc i + length os = omega arith in below_same (i + suc (length os)) (suc i + length os) o z h))

rise_at : (i : ℕ) (os : List (Option ℕ)) (n outer : ℕ) → RiseFrom i os → slice_get os n ≡ Some (Some outer) → outer < i + n
unfolding RiseFrom
rise_at i [] n outer r e = absurd (cc)
rise_at i (o ∷ os) zero outer r e =
    let same : o ≡ Some outer = cc in
    let h : IsBelow i (Some outer) = subst (IsBelow i) same r.0 in
    omega (arith, h)
rise_at i (o ∷ os) (suc n) outer r e = let h : outer < suc i + n = rise_at (suc i) os n outer r.1 e in omega (arith, h)

pub comes_before : (os : List (Option ℕ)) → RiseFrom 0 os → ComesBefore os
comes_before os r n outer e = let h : outer < 0 + n = rise_at 0 os n outer r e in omega (arith, h)

pub nothing_rises : RiseFrom 0 []
unfolding RiseFrom
nothing_rises = tt

-- what stands for a list is below their number
pub stands_below : (lists : List (List ℕ)) (o : Option ℕ) (xs : List ℕ) → Stands lists o xs → IsBelow (length lists) o
stands_below lists None xs s = tt
stands_below lists (Some n) xs s = got_below lists n s
  where
    got_below : (ls : List (List ℕ)) (k : ℕ) → slice_get ls k ≡ Some xs → k < length ls
    got_below [] k e = absurd (cc)
    got_below (l ∷ ls) zero e = omega arith
    got_below (l ∷ ls) (suc k) e = let h : k < length ls = got_below ls k e in omega (arith, h)

pub line_below : (os : List (Option ℕ)) (o : Option ℕ) (xs : List ℕ) → Stands (lineages os) o xs → IsBelow (length os) o
line_below os o xs s = below_same (length (lineages os)) (length os) o (lineages_length os) (stands_below (lineages os) o xs s)

pub head_below : (hs : List HeadEntry) (o : Option ℕ) (xs : List ℕ) → Stands (head_lists hs) o xs → IsBelow (length hs) o
head_below hs o xs s = below_same (length (head_lists hs)) (length hs) o (head_length hs) (stands_below (head_lists hs) o xs s)

pub line_rises : (os : List (Option ℕ)) (o : Option ℕ) (xs : List ℕ) → RiseFrom 0 os → Stands (lineages os) o xs → RiseFrom 0 (os ++ o ∷ [])
line_rises os o xs r s = rise_push_from 0 os o r (let z : length os ≡ 0 + length os = omega arith in below_same (length os) (0 + length os) o z (line_below os o xs s))

abbrev pub parents : List HeadEntry → List (Option ℕ)
parents hs = map (λ h. h.parent) hs

pub head_rises : (hs : List HeadEntry) (h : HeadEntry) (xs : List ℕ) → RiseFrom 0 (parents hs) → Stands (head_lists hs) h.parent xs → RiseFrom 0 (parents (hs ++ h ∷ []))
head_rises hs h xs r s =
    let z : length hs ≡ 0 + length (parents hs) = let e : length (parents hs) ≡ length hs = length-map hs (λ (g : HeadEntry). g.parent) in omega (arith, e) in
    subst (RiseFrom 0) (sym (map-append (λ (g : HeadEntry). g.parent) hs (h ∷ [])))
    (rise_push_from 0 (parents hs) h.parent r (below_same (length hs) (0 + length (parents hs)) h.parent z (head_below hs h.parent xs s)))

-- heads of scopes below n, of which there may be more
abbrev pub AreHeads : List (Option ℕ) → List HeadEntry → Type 0
AreHeads os hs = AllByRecursion (λ (h : HeadEntry). h.scope < length os) hs

pub heads_stay : (os : List (Option ℕ)) (o : Option ℕ) (hs : List HeadEntry) → AreHeads os hs → AreHeads (os ++ o ∷ []) hs
heads_stay os o [] a = tt
heads_stay os o (h ∷ hs) a = (let e : length (os ++ o ∷ []) ≡ length os + 1 = length-append os (o ∷ []) in omega (arith, e, a.0), heads_stay os o hs a.1)

pub head_joins : (os : List (Option ℕ)) (hs : List HeadEntry) (h : HeadEntry) → AreHeads os hs → h.scope < length os → AreHeads os (hs ++ h ∷ [])
head_joins os hs h a b = AllOf_push (λ (g : HeadEntry). g.scope < length os) hs h a b

-- ---- what an entry's number stands for: its own number before the list of the number outside

stays_from : (before : List (List ℕ)) (os : List (Option ℕ)) → Grows before (lineages_from before os)
unfolding lineages_from
stays_from before [] n xs e = e
stays_from before (o ∷ os) n xs e =
    stays_from (before ++ (length before ∷ list_at before o) ∷ []) os n xs (grows_push before (length before ∷ list_at before o) n xs e)

list_stays : (a b : List (List ℕ)) (o : Option ℕ) → Grows a b → IsBelow (length a) o → list_at a o ≡ list_at b o
unfolding list_at
list_stays a b None g h = refl
list_stays a b (Some n) g h = found (slice_get a n) refl
  where
    found : (x : Option (List ℕ)) → slice_get a n ≡ x → list_at a (Some n) ≡ list_at b (Some n)
    found None e = absurd (none_past a n h e)
      where
        none_past : (ls : List (List ℕ)) (k : ℕ) → k < length ls → slice_get ls k ≡ None → ⊥
        none_past [] k l q = absurd (omega (arith, l))
        none_past (y ∷ ls) zero l q = absurd (cc)
        none_past (y ∷ ls) (suc k) l q = none_past ls k (omega (arith, l)) q
    found (Some xs) e = list_is a (Some n) xs e ∙ sym (list_is b (Some n) xs (g n xs e))

line_at_from : (before : List (List ℕ)) (os : List (Option ℕ)) (n : ℕ) (o : Option ℕ) → RiseFrom (length before) os → slice_get os n ≡ Some o
    → slice_get (lineages_from before os) (length before + n) ≡ Some ((length before + n) ∷ list_at (lineages_from before os) o)
unfolding lineages_from RiseFrom
line_at_from before [] n o r e = absurd (cc)
line_at_from before (p ∷ os) zero o r e =
    let same : p ≡ o = cc in
    let more : List (List ℕ) = before ++ (length before ∷ list_at before p) ∷ [] in
    let z : length before ≡ length before + 0 = omega arith in
    let g : Grows before (lineages_from more os) = grows_on before more (lineages_from more os) (grows_push before (length before ∷ list_at before p)) (stays_from more os) in
    let here : slice_get (lineages_from more os) (length before) ≡ Some (length before ∷ list_at before p) =
    stays_from more os (length before) (length before ∷ list_at before p) (last_is before (length before ∷ list_at before p)) in
    let there : slice_get (lineages_from more os) (length before) ≡ Some (length before ∷ list_at (lineages_from more os) o) =
    here ∙ ap (λ (xs : List ℕ). Some (length before ∷ xs)) (list_stays before (lineages_from more os) p g r.0 ∙ ap (list_at (lineages_from more os)) same) in
    subst (λ (k : ℕ). slice_get (lineages_from more os) k ≡ Some (k ∷ list_at (lineages_from more os) o)) z there
line_at_from before (p ∷ os) (suc n) o r e =
    let more : List (List ℕ) = before ++ (length before ∷ list_at before p) ∷ [] in
    let w : length more ≡ length before + 1 = length-append before ((length before ∷ list_at before p) ∷ []) in
    let v : suc (length before) ≡ length more = omega (arith, w) in
    let z : length more + n ≡ length before + suc n = omega (arith, w) in
    let found : slice_get (lineages_from more os) (length more + n) ≡ Some ((length more + n) ∷ list_at (lineages_from more os) o) =
    line_at_from more os n o (subst (λ (k : ℕ). RiseFrom k os) v r.1) e in
    subst (λ (k : ℕ). slice_get (lineages_from more os) k ≡ Some (k ∷ list_at (lineages_from more os) o)) z found

rise_back_from : (i : ℕ) (os : List (Option ℕ)) → ((n outer : ℕ) → slice_get os n ≡ Some (Some outer) → outer < i + n) → RiseFrom i os
unfolding RiseFrom
rise_back_from i [] h = tt
rise_back_from i (o ∷ os) h = (first o refl, rise_back_from (suc i) os (λ n outer e. let l : outer < i + suc n = h (suc n) outer e in omega (arith, l)))
  where
    first : (p : Option ℕ) → o ≡ p → IsBelow i p
    first None e = tt
    first (Some k) e = let l : k < i + 0 = h zero k (ap (λ (q : Option ℕ). Some q) e) in omega (arith, l)

-- of a scope or a class body, by its entry
pub line_at : (os : List (Option ℕ)) → ComesBefore os → (n : ℕ) (o : Option ℕ) → slice_get os n ≡ Some o → slice_get (lineages os) n ≡ Some (n ∷ list_at (lineages os) o)
unfolding lineages
line_at os c n o e =
    let r : RiseFrom 0 os = rise_back_from 0 os (λ k outer s. let l : outer < k = c k outer s in omega (arith, l)) in
    let z : 0 + n ≡ n = omega arith in
    subst (λ (k : ℕ). slice_get (lineages os) k ≡ Some (k ∷ list_at (lineages os) o)) z (line_at_from [] os n o r e)

-- ---- of a head, by its entry

heads_stay_from : (before : List (List ℕ)) (hs : List HeadEntry) → Grows before (heads_from before hs)
unfolding heads_from
heads_stay_from before [] n xs e = e
heads_stay_from before (h ∷ hs) n xs e =
    heads_stay_from (before ++ (h.scope ∷ list_at before h.parent) ∷ []) hs n xs (grows_push before (h.scope ∷ list_at before h.parent) n xs e)

head_at_from : (before : List (List ℕ)) (hs : List HeadEntry) (n : ℕ) (h : HeadEntry) → RiseFrom (length before) (parents hs) → slice_get hs n ≡ Some h
    → slice_get (heads_from before hs) (length before + n) ≡ Some (h.scope ∷ list_at (heads_from before hs) h.parent)
unfolding heads_from RiseFrom
head_at_from before [] n h r e = absurd (cc)
head_at_from before (g ∷ hs) zero h r e =
    let same : g ≡ h = cc in
    let more : List (List ℕ) = before ++ (g.scope ∷ list_at before g.parent) ∷ [] in
    let z : length before ≡ length before + 0 = omega arith in
    let w : Grows before (heads_from more hs) = grows_on before more (heads_from more hs) (grows_push before (g.scope ∷ list_at before g.parent)) (heads_stay_from more hs) in
    let here : slice_get (heads_from more hs) (length before) ≡ Some (g.scope ∷ list_at before g.parent) =
    heads_stay_from more hs (length before) (g.scope ∷ list_at before g.parent) (last_is before (g.scope ∷ list_at before g.parent)) in
    let there : slice_get (heads_from more hs) (length before) ≡ Some (h.scope ∷ list_at (heads_from more hs) h.parent) =
    here ∙ ap (λ (xs : List ℕ). Some (g.scope ∷ xs)) (list_stays before (heads_from more hs) g.parent w r.0) ∙ ap (λ (q : HeadEntry). Some (q.scope ∷ list_at (heads_from more hs) q.parent)) same in
    subst (λ (k : ℕ). slice_get (heads_from more hs) k ≡ Some (h.scope ∷ list_at (heads_from more hs) h.parent)) z there
head_at_from before (g ∷ hs) (suc n) h r e =
    let more : List (List ℕ) = before ++ (g.scope ∷ list_at before g.parent) ∷ [] in
    let w : length more ≡ length before + 1 = length-append before ((g.scope ∷ list_at before g.parent) ∷ []) in
    let v : suc (length before) ≡ length more = omega (arith, w) in
    let z : length more + n ≡ length before + suc n = omega (arith, w) in
    let found : slice_get (heads_from more hs) (length more + n) ≡ Some (h.scope ∷ list_at (heads_from more hs) h.parent) =
    head_at_from more hs n h (subst (λ (k : ℕ). RiseFrom k (parents hs)) v r.1) e in
    subst (λ (k : ℕ). slice_get (heads_from more hs) k ≡ Some (h.scope ∷ list_at (heads_from more hs) h.parent)) z found

pub head_at : (hs : List HeadEntry) → ComesBefore (parents hs) → (n : ℕ) (h : HeadEntry) → slice_get hs n ≡ Some h → slice_get (head_lists hs) n ≡ Some (h.scope ∷ list_at (head_lists hs) h.parent)
unfolding head_lists
head_at hs c n h e =
    let r : RiseFrom 0 (parents hs) = rise_back_from 0 (parents hs) (λ k outer s. let l : outer < k = c k outer s in omega (arith, l)) in
    let z : 0 + n ≡ n = omega arith in
    subst (λ (k : ℕ). slice_get (head_lists hs) k ≡ Some (h.scope ∷ list_at (head_lists hs) h.parent)) z (head_at_from [] hs n h r e)
