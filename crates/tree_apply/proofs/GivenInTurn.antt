-- New names, some of which are none, numbered one place after another.
use Rattle.std.specs.Prelude.{◌≡◌, ℕ, suc, ◌+◌, Bool, true, false, not, ◌&&◌, ◌||◌, List, [], ◌∷◌, ◌++◌, length, map, take, slice_get, Option, Some, None, option_map, IsTrue, String, string_bytes}
use Rattle.std.specs.List.{AllByRecursion}
use Rattle.std.specs.Option.{unwrap_or}
use Rattle.std.proofs.Common.{refl, sym, ap, ◌∙◌, subst, arith, inl, inr, append_assoc}
use Rattle.std.proofs.lemmas.List.{append-nil, length-append, map-append}
use Rattle.scope_tables.proofs.BoundPlaces.{take_read}
use Rattle.list_laws.proofs.Members.{In}
use Rattle.list_laws.proofs.Tests.{none_some, tested}
use Rattle.syntax_lex.specs.Identifier.{is_identifier_name}
use Rattle.tree_apply.specs.Applied.{numbered, taken}
use Rattle.tree_nodes.specs.Tree.{Parts, Text}
use Rattle.tree_places.specs.Chosen.{chosen, given_name, or_own, spare_plain}
use Rattle.tree_places.proofs.Numbers.{one_name_each}
use Rattle.tree_places.specs.Places.{Place, Site, named_by, names, places, sites}
use Rattle.tree_places.specs.Renaming.{is_plain}

taken_push : (os : List (Option Text)) (o : Option Text) → taken (os ++ o ∷ []) ≡ taken os ++ taken (o ∷ [])
unfolding taken
taken_push [] o = refl
taken_push (None ∷ os) o = taken_push os o
taken_push (Some x ∷ os) o = ap (λ xs. x ∷ xs) (taken_push os o)

numbered_push : (n : ℕ) (os : List (Option Text)) (o : Option Text) → numbered n (os ++ o ∷ []) ≡ numbered n os ++ numbered (n + length (taken os)) (o ∷ [])
unfolding numbered taken
numbered_push n [] o = ap (λ (m : ℕ). numbered m (o ∷ [])) (let e : n ≡ n + 0 = omega arith in e)
numbered_push n (None ∷ os) o = ap (λ cs. None ∷ cs) (numbered_push n os o)
numbered_push n (Some x ∷ os) o =
    ap (λ cs. Some n ∷ cs) (numbered_push (suc n) os o ∙ ap (λ (m : ℕ). numbered (suc n) os ++ numbered m (o ∷ [])) (let e : suc n + length (taken os) ≡ n + suc (length (taken os)) = omega arith in e))

module _ (f : Place → Option Text) (ps : List Place) (i : ℕ) (p : Place) (at : slice_get ps i ≡ Some p) where
  one_more : map f (take (i + 1) ps) ≡ map f (take i ps) ++ f p ∷ []
  one_more = ap (map f) (take_read ps i p at) ∙ map-append f (take i ps) (p ∷ [])

  pub one_taken : (names new : List Text) (o : Option Text) → names ≡ taken (map f (take i ps)) → o ≡ f p → new ≡ names ++ taken (o ∷ []) → new ≡ taken (map f (take (i + 1) ps))
  one_taken names new o so_far e put =
      put
      ∙ ap (λ xs. xs ++ taken (o ∷ [])) so_far
      ∙ ap (λ (q : Option Text). taken (map f (take i ps)) ++ taken (q ∷ [])) e
      ∙ sym (ap taken one_more ∙ taken_push (map f (take i ps)) (f p))

  pub one_numbered : (choices new : List (Option ℕ)) (many : ℕ) (o : Option Text) → choices ≡ numbered 0 (map f (take i ps)) → many ≡ length (taken (map f (take i ps))) → o ≡ f p → new ≡ choices ++ numbered many (o ∷ []) → new ≡ numbered 0 (map f (take (i + 1) ps))
  one_numbered choices new many o so_far m e put =
      put
      ∙ ap (λ cs. cs ++ numbered many (o ∷ [])) so_far
      ∙ ap (λ (k : ℕ). numbered 0 (map f (take i ps)) ++ numbered k (o ∷ [])) (m ∙ (let z : length (taken (map f (take i ps))) ≡ 0 + length (taken (map f (take i ps))) = omega arith in z))
      ∙ ap (λ (q : Option Text). numbered 0 (map f (take i ps)) ++ numbered (0 + length (taken (map f (take i ps)))) (q ∷ [])) e
      ∙ sym (ap (numbered 0) one_more ∙ numbered_push 0 (map f (take i ps)) (f p))

-- one that is put, and none
pub put_some : {Z : Type 0} (old new : List (Option ℕ)) (many : ℕ) (o : Option (String Z)) (x : String Z) → o ≡ Some x → new ≡ old ++ Some many ∷ [] → new ≡ old ++ numbered many (option_map string_bytes o ∷ [])
unfolding numbered
put_some {Z} old new many o x e put = put ∙ sym (ap (λ (q : Option (String Z)). old ++ numbered many (option_map string_bytes q ∷ [])) e)

pub name_put : {Z : Type 0} (old new : List (String Z)) (o : Option (String Z)) (x : String Z) → o ≡ Some x → new ≡ old ++ x ∷ [] → map string_bytes new ≡ map string_bytes old ++ taken (option_map string_bytes o ∷ [])
unfolding taken
name_put {Z} old new o x e put =
    ap (λ (ss : List (String Z)). map string_bytes ss) put
    ∙ map-append string_bytes old (x ∷ [])
    ∙ sym (ap (λ (q : Option (String Z)). map string_bytes old ++ taken (option_map string_bytes q ∷ [])) e)

pub put_none : {Z : Type 0} (old new : List (Option ℕ)) (many : ℕ) (o : Option (String Z)) → o ≡ None → new ≡ old ++ None ∷ [] → new ≡ old ++ numbered many (option_map string_bytes o ∷ [])
unfolding numbered
put_none {Z} old new many o e put = put ∙ sym (ap (λ (q : Option (String Z)). old ++ numbered many (option_map string_bytes q ∷ [])) e)

pub none_named : {Z : Type 0} (old new : List (String Z)) (o : Option (String Z)) → o ≡ None → new ≡ old → map string_bytes new ≡ map string_bytes old ++ taken (option_map string_bytes o ∷ [])
unfolding taken
none_named {Z} old new o e same =
    ap (λ (ss : List (String Z)). map string_bytes ss) same
    ∙ sym (append-nil (map string_bytes old))
    ∙ sym (ap (λ (q : Option (String Z)). map string_bytes old ++ taken (option_map string_bytes q ∷ [])) e)

-- ---- what they choose

there : {X : Type 0} (xs ys : List X) (y : X) → slice_get (xs ++ y ∷ ys) (length xs) ≡ Some y
there [] ys y = refl
there (x ∷ xs) ys y = there xs ys y

pub chosen_given : (f : Place → Option Text) (ps : List Place) (before : List Text) → chosen (before ++ taken (map f ps)) (numbered (length before) (map f ps)) (map (λ (p : Place). p.name) ps) ≡ map (λ (p : Place). unwrap_or (f p) p.name) ps
unfolding chosen given_name or_own taken numbered
chosen_given f [] before = refl
chosen_given f (p ∷ ps) before = go (f p) (chosen_given f ps before) (λ x. chosen_given f ps (before ++ x ∷ []))
  where
    rest : List (Option Text)
    rest = map f ps

    old : List Text
    old = map (λ (q : Place). q.name) ps

    news : List Text
    news = map (λ (q : Place). unwrap_or (f q) q.name) ps

    go : (o : Option Text) → chosen (before ++ taken rest) (numbered (length before) rest) old ≡ news
        → ((x : Text) → chosen ((before ++ x ∷ []) ++ taken rest) (numbered (length (before ++ x ∷ [])) rest) old ≡ news)
        → chosen (before ++ taken (o ∷ rest)) (numbered (length before) (o ∷ rest)) (p.name ∷ old) ≡ unwrap_or o p.name ∷ news
    go None here later = ap (λ xs. p.name ∷ xs) here
    go (Some x) here later =
        ap (λ (q : Option Text). or_own q p.name ∷ chosen (before ++ x ∷ taken rest) (numbered (suc (length before)) rest) old) (there before (taken rest) x)
        ∙ ap (λ xs. x ∷ xs)
        (ap (λ (given : List Text). chosen given (numbered (suc (length before)) rest) old) (sym (append_assoc before (x ∷ []) (taken rest)))
        ∙ ap (λ (n : ℕ). chosen ((before ++ x ∷ []) ++ taken rest) (numbered n rest) old) (let l : length (before ++ x ∷ []) ≡ length before + 1 = length-append before (x ∷ []) in let m : suc (length before) ≡ length (before ++ x ∷ []) = omega (arith, l) in m)
        ∙ later x)

or_true : (b : Bool) → (b || true) ≡ true
or_true true = refl
or_true false = refl

-- no plain name is chosen for
pub plain_spared : (f : Place → Option Text) (ps : List Place) (n : ℕ) → ((p : Place) → is_plain p.site ≡ true → f p ≡ None) → spare_plain (map (λ (p : Place). p.site) ps) (numbered n (map f ps)) ≡ true
unfolding spare_plain numbered
plain_spared f [] n h = refl
plain_spared f (p ∷ ps) n h = go (f p) (h p) (plain_spared f ps n h) (plain_spared f ps (suc n) h)
  where
    ss : List Site
    ss = map (λ (q : Place). q.site) ps

    go : (o : Option Text) → (is_plain p.site ≡ true → o ≡ None) → spare_plain ss (numbered n (map f ps)) ≡ true → spare_plain ss (numbered (suc n) (map f ps)) ≡ true → spare_plain (p.site ∷ ss) (numbered n (o ∷ map f ps)) ≡ true
    go None g here later = ap (λ (c : Bool). c && spare_plain ss (numbered n (map f ps))) (or_true (not (is_plain p.site))) ∙ here
    go (Some x) g here later = tested (is_plain p.site) (λ t. absurd (none_some x (sym (g t)))) (λ t. ap (λ (c : Bool). (not c || false) && spare_plain ss (numbered (suc n) (map f ps))) t ∙ later)

-- each of them is one of the new names
from_taken : (os : List (Option Text)) (x : Text) → In x (taken os) → In (Some x) os
unfolding taken
from_taken [] x i = absurd i
from_taken (None ∷ os) x i = inr (from_taken os x i)
from_taken (Some y ∷ os) x (inl e) = inl (ap (λ (z : Text). Some z) e)
from_taken (Some y ∷ os) x (inr i) = inr (from_taken os x i)

from_mapped : (f : Place → Option Text) (ps : List Place) (x : Text) → In (Some x) (map f ps) → (p : Place) × In p ps × (f p ≡ Some x)
from_mapped f [] x i = absurd i
from_mapped f (p ∷ ps) x (inl e) = (p, inl refl, e)
from_mapped f (p ∷ ps) x (inr i) = let r : (q : Place) × In q ps × (f q ≡ Some x) = from_mapped f ps x i in (r.0, inr r.1, r.2)

pub each_identifier : {Z : Type 0} (f : Place → Option Text) (ps : List Place) (names : List (String Z)) → map string_bytes names ≡ taken (map f ps) → ((p : Place) → In p ps → (x : Text) → f p ≡ Some x → IsTrue (is_identifier_name x)) → AllByRecursion (λ s. IsTrue (is_identifier_name (string_bytes s))) names
each_identifier {Z} f ps names e h =
    each names (λ x i. let r : (p : Place) × In p ps × (f p ≡ Some x) = from_mapped f ps x (from_taken (map f ps) x (subst (In x) e i)) in h r.0 r.1 x r.2)
  where
    each : (ss : List (String Z)) → ((x : Text) → In x (map string_bytes ss) → IsTrue (is_identifier_name x)) → AllByRecursion (λ s. IsTrue (is_identifier_name (string_bytes s))) ss
    each [] g = tt
    each (s ∷ ss) g = (g (string_bytes s) (inl refl), each ss (λ x i. g x (inr i)))

-- ---- the sites of a tree's places

sites_of_named : (ss : List Site) (xs : List Text) → length xs ≡ length ss → map (λ (p : Place). p.site) (named_by ss xs) ≡ ss
unfolding named_by
sites_of_named [] [] h = refl
sites_of_named [] (x ∷ xs) h = absurd (omega (arith, h))
sites_of_named (s ∷ ss) [] h = absurd (omega (arith, h))
sites_of_named (s ∷ ss) (x ∷ xs) h = ap (λ ys. s ∷ ys) (sites_of_named ss xs (omega (arith, h)))

pub sites_of_places : (t : Parts) → map (λ (p : Place). p.site) (places t) ≡ sites t
unfolding places
sites_of_places t = sites_of_named (sites t) (names t) (one_name_each t)
