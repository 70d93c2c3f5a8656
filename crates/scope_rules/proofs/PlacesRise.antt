-- Places stand in the order of their numbers, so a number tells the place.
use Rattle.std.specs.Prelude.{◌≡◌, ◌⊎◌, ℕ, suc, ◌≤◌, List, [], ◌∷◌, length, map}
use Rattle.std.proofs.Common.{refl, sym, ap, ◌∙◌, subst, arith, inl, inr}
use Rattle.list_laws.proofs.Members.{In}
use Rattle.tree_nodes.specs.Tree.{Parts}
use Rattle.tree_places.proofs.Rising.{numbers_rise}
use Rattle.tree_places.specs.Laws.{RiseFrom}
use Rattle.tree_places.specs.Places.{Named, Place, Site, named_by, names, places, sites}
use Rattle.scope_rules.specs.Bindings.{node}
use Rattle.scope_rules.specs.Open.{all_open}

pub above : {N : Type 0} (n : ℕ) (ps : List (Named N)) (q : Named N) → RiseFrom n (map node ps) → In q ps → n ≤ node q
unfolding all_open
above n [] q r i = absurd i
above {N} n (p ∷ ps) q r i = go i (above (suc (node p)) ps q r.1)
  where
    go : (p ≡ q) ⊎ In q ps → (In q ps → suc (node p) ≤ node q) → n ≤ node q
    go (inl e) ih = subst (λ (x : Named N). n ≤ node x) e r.0
    go (inr j) ih = let h : suc (node p) ≤ node q = ih j in let k : n ≤ node p = r.0 in omega (arith, h, k)

pub one_place : {N : Type 0} (n : ℕ) (ps : List (Named N)) (p q : Named N) → RiseFrom n (map node ps) → In p ps → In q ps → node p ≡ node q → p ≡ q
unfolding all_open
one_place n [] p q r i j e = absurd i
one_place {N} n (x ∷ ps) p q r i j e = go i j (one_place (suc (node x)) ps p q r.1)
  where
    go : (x ≡ p) ⊎ In p ps → (x ≡ q) ⊎ In q ps → (In p ps → In q ps → node p ≡ node q → p ≡ q) → p ≡ q
    go (inl a) (inl b) ih = sym a ∙ b
    go (inl a) (inr b) ih = let h : suc (node x) ≤ node q = above (suc (node x)) ps q r.1 b in let k : node x ≡ node p = ap node a in absurd (omega (arith, h, k, e))
    go (inr a) (inl b) ih = let h : suc (node x) ≤ node p = above (suc (node x)) ps p r.1 a in let k : node x ≡ node q = ap node b in absurd (omega (arith, h, k, e))
    go (inr a) (inr b) ih = ih a b e

pub named_nodes : {N : Type 0} (ss : List Site) (xs : List N) → length xs ≡ length ss → map node (named_by ss xs) ≡ map (λ s. s.node) ss
unfolding all_open
named_nodes [] [] h = refl
named_nodes [] (x ∷ xs) h = refl
named_nodes (s ∷ ss) [] h = absurd (omega (arith, h))
named_nodes (s ∷ ss) (x ∷ xs) h = ap (λ ns. s.node ∷ ns) (named_nodes ss xs (omega (arith, h)))

pub places_rise : (t : Parts) → RiseFrom 0 (map node (places t))
unfolding all_open
places_rise t = subst (RiseFrom 0) (sym (named_nodes (sites t) (names t) (numbers_rise t).2)) (numbers_rise t).0

pub named_site : {N : Type 0} (ss : List Site) (xs : List N) (p : Named N) → In p (named_by ss xs) → In p.site ss
unfolding all_open
named_site {N} [] xs p i = absurd (none xs i)
  where
    none : (ys : List N) → In p (named_by [] ys) → ⊥
    none [] j = j
    none (y ∷ ys) j = j
named_site (s ∷ ss) [] p i = absurd i
named_site {N} (s ∷ ss) (x ∷ xs) p i = go i (named_site ss xs p)
  where
    go : (record { site = s; name = x } ≡ p) ⊎ In p (named_by ss xs) → (In p (named_by ss xs) → In p.site ss) → In p.site (s ∷ ss)
    go (inl e) ih = inl (ap (λ (q : Named N). q.site) e)
    go (inr j) ih = inr (ih j)

pub site_in : (t : Parts) (p : Place) → In p (places t) → In p.site (sites t)
unfolding all_open
site_in t p i = named_site (sites t) (names t) p i

pub one_of_number : (t : Parts) (p q : Place) → In p (places t) → In q (places t) → node p ≡ node q → p ≡ q
one_of_number t p q i j e = one_place 0 (places t) p q (places_rise t) i j e
