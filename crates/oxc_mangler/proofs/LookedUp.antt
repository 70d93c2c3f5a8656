-- What is looked up in a list of different names, one name after another.
use Rattle.std.specs.Prelude.{◌≡◌, ◌<◌, ◌≤◌, ℕ, zero, suc, ◌+◌, Bool, true, false, cond, ◌&&◌, ◌||◌, nat_eq, nat_lt, List, [], ◌∷◌, ◌++◌, filter, length, map, take, get_or, Option, Some, None}
use Rattle.std.proofs.Common.{refl, sym, ap, ◌∙◌, subst, arith, inl, inr, lt-ltb, le-ltb}
use Rattle.std.specs.Prelude.{◌⊎◌}
use Rattle.std.proofs.lemmas.Bool.{both_ways, cases_lt, eqb-false, eqb-true, or_parts}
use Rattle.std.proofs.lemmas.List.{length-take-le, take_more}
use Rattle.class_tables.proofs.Distinct.{same_flips}
use Rattle.list_laws.proofs.Tests.{none_some, tested}
use Rattle.name_rules.specs.PrivateNumbers.{index_of}
use Rattle.oxc_mangler.specs.ClassNames.{looked_up}
use Rattle.scope_rules.proofs.SameNames.{same_name_tells}
use Rattle.scope_rules.specs.Bindings.{same_name}
use Rattle.scope_rules.specs.PrivateNames.{declares_private, distinct, distinct_after, is_among, private_names}
use Rattle.tree_nodes.specs.Tree.{Text}
use Rattle.tree_places.specs.Places.{Place}

same_told : (x y : Text) → same_name x y ≡ true → x ≡ y
same_told x y e = (same_name_tells x y).0 e

-- ---- names that are listed once

record New (before names : List Text) (i : ℕ) : Type 0 where
  outside : is_among before (get_or names i []) ≡ false
  first : is_among (take i names) (get_or names i []) ≡ false

different_after : (before xs : List Text) (i : ℕ) → i < length (distinct_after before xs) → New before (distinct_after before xs) i
unfolding distinct_after is_among
different_after before [] i h = absurd (omega (arith, h))
different_after before (x ∷ xs) i h = go (is_among before x) refl (different_after before xs i) i h (different_after (x ∷ before) xs)
  where
    go : (b : Bool) → is_among before x ≡ b → (i < length (distinct_after before xs) → New before (distinct_after before xs) i) → (j : ℕ)
        → i < length (elim b as (λ _. List Text) [ true ↦ distinct_after before xs | false ↦ x ∷ distinct_after (x ∷ before) xs ])
        → ((k : ℕ) → k < length (distinct_after (x ∷ before) xs) → New (x ∷ before) (distinct_after (x ∷ before) xs) k)
        → New before (elim b as (λ _. List Text) [ true ↦ distinct_after before xs | false ↦ x ∷ distinct_after (x ∷ before) xs ]) i
    go true e ih j l jh = ih l
    go false e ih j l jh = at i l
      where
        at : (m : ℕ) → m < length (x ∷ distinct_after (x ∷ before) xs) → New before (x ∷ distinct_after (x ∷ before) xs) m
        at zero q = record { outside = e; first = refl }
        at (suc m) q =
            let n : New (x ∷ before) (distinct_after (x ∷ before) xs) m = jh m (omega (arith, q)) in
            let y : Text = get_or (distinct_after (x ∷ before) xs) m [] in
            let parts : (same_name y x ≡ false) × (is_among before y ≡ false) = or_parts (same_name y x) (is_among before y) n.outside in
            record {
              outside = parts.1;
              first = ap (λ (b : Bool). b || is_among (take m (distinct_after (x ∷ before) xs)) y) parts.0 ∙ n.first;
            }

pub different_names : (xs : List Text) (i : ℕ) → i < length (distinct xs) → is_among (take i (distinct xs)) (get_or (distinct xs) i []) ≡ false
unfolding distinct
different_names xs i h = (different_after [] xs i h).first

pub different_private : (ps : List Place) (c : ℕ) (ys : List Text) (i : ℕ) → ys ≡ private_names ps c → i < length ys → is_among (take i ys) (get_or ys i []) ≡ false
unfolding private_names
different_private ps c ys i e h =
    subst (λ (zs : List Text). is_among (take i zs) (get_or zs i []) ≡ false) (sym e)
    (different_names (map (λ (p : Place). p.name) (filter (λ (p : Place). declares_private c p.site) ps)) i (subst (λ (zs : List Text). i < length zs) e h))

-- ---- what is looked up

module _ (f : ℕ → Option Text) where
  pub unlisted : (ys : List Text) (n : ℕ) (x : Text) → is_among ys x ≡ false → looked_up ys f n x ≡ None
  unfolding looked_up is_among
  unlisted [] n x h = refl
  unlisted (y ∷ ys) n x h =
      let parts : (same_name x y ≡ false) × (is_among ys x ≡ false) = or_parts (same_name x y) (is_among ys x) h in
      ap (λ (b : Bool). cond b (f n) (looked_up ys f (suc n) x)) (same_flips y x ∙ parts.0) ∙ unlisted ys (suc n) x parts.1

  pub listed : (ys : List Text) (n : ℕ) (x : Text) → is_among ys x ≡ true → looked_up ys f n x ≡ f (n + index_of x ys)
  unfolding looked_up is_among index_of
  listed [] n x h = absurd (both_ways _ refl h)
  listed (y ∷ ys) n x h = go (same_name x y) refl h (listed ys (suc n) x)
    where
      go : (b : Bool) → same_name x y ≡ b → (b || is_among ys x) ≡ true → (is_among ys x ≡ true → looked_up ys f (suc n) x ≡ f (suc n + index_of x ys)) → cond (same_name y x) (f n) (looked_up ys f (suc n) x) ≡ f (n + cond b 0 (suc (index_of x ys)))
      go true e g ih = ap (λ (b : Bool). cond b (f n) (looked_up ys f (suc n) x)) (same_flips y x ∙ e) ∙ ap f (let z : n ≡ n + 0 = omega arith in z)
      go false e g ih = ap (λ (b : Bool). cond b (f n) (looked_up ys f (suc n) x)) (same_flips y x ∙ e) ∙ ih g ∙ ap f (let z : suc n + index_of x ys ≡ n + suc (index_of x ys) = omega arith in z)

  looked_push : (ys : List Text) (y : Text) (n : ℕ) (x : Text) → is_among ys y ≡ false → looked_up (ys ++ y ∷ []) f n x ≡ cond (same_name y x) (f (n + length ys)) (looked_up ys f n x)
  unfolding looked_up is_among
  looked_push [] y n x h = ap (λ (m : ℕ). cond (same_name y x) (f m) None) (let z : n ≡ n + 0 = omega arith in z)
  looked_push (z ∷ ys) y n x h =
      let parts : (same_name y z ≡ false) × (is_among ys y ≡ false) = or_parts (same_name y z) (is_among ys y) h in
      go (same_name z x) refl parts.0 (looked_push ys y (suc n) x parts.1 ∙ ap (λ (m : ℕ). cond (same_name y x) (f m) (looked_up ys f (suc n) x)) (let q : suc n + length ys ≡ n + suc (length ys) = omega arith in q))
    where
      apart : same_name z x ≡ true → same_name y z ≡ false → same_name y x ≡ false
      apart e g = sym (ap (same_name y) (same_told z x e)) ∙ g

      go : (b : Bool) → same_name z x ≡ b → same_name y z ≡ false → looked_up (ys ++ y ∷ []) f (suc n) x ≡ cond (same_name y x) (f (n + suc (length ys))) (looked_up ys f (suc n) x)
          → cond b (f n) (looked_up (ys ++ y ∷ []) f (suc n) x) ≡ cond (same_name y x) (f (n + suc (length ys))) (cond b (f n) (looked_up ys f (suc n) x))
      go true e g ih = sym (ap (λ (b : Bool). cond b (f (n + suc (length ys))) (f n)) (apart e g))
      go false e g ih = ih

  -- one name more
  pub one_looked_up : (ys : List Text) (i : ℕ) (y x : Text) → i < length ys → y ≡ get_or ys i [] → is_among (take i ys) (get_or ys i []) ≡ false
      → cond (same_name y x) (f i) (looked_up (take i ys) f 0 x) ≡ looked_up (take (i + 1) ys) f 0 x
  one_looked_up ys i y x h e new =
      sym (ap (λ (zs : List Text). looked_up zs f 0 x) (take_more ys i [] h)
      ∙ looked_push (take i ys) (get_or ys i []) 0 x new
      ∙ ap (λ (m : ℕ). cond (same_name (get_or ys i []) x) (f m) (looked_up (take i ys) f 0 x)) (let l : 0 + length (take i ys) ≡ i = omega (arith, length-take-le i ys (omega (arith, h))) in l)
      ∙ ap (λ (z : Text). cond (same_name z x) (f i) (looked_up (take i ys) f 0 x)) (sym e))

  -- it is what the function has somewhere
  pub from_looked_up : (ys : List Text) (n : ℕ) (x z : Text) → looked_up ys f n x ≡ Some z → (i : ℕ) × (f i ≡ Some z)
  unfolding looked_up
  from_looked_up [] n x z e = absurd (none_some z e)
  from_looked_up (y ∷ ys) n x z e = tested (same_name y x)
      (λ t. (n, sym (ap (λ (b : Bool). cond b (f n) (looked_up ys f (suc n) x)) t) ∙ e))
      (λ t. from_looked_up ys (suc n) x z (sym (ap (λ (b : Bool). cond b (f n) (looked_up ys f (suc n) x)) t) ∙ e))

-- ---- names of one class among those of all

-- what is put at a class
pub one_put : (here same : Bool) (put old before after first : Option Text) → old ≡ cond here before first → cond same put before ≡ after → cond (here && same) put old ≡ cond here after first
one_put true true put old before after first h e = e
one_put true false put old before after first h e = h ∙ e
one_put false same put old before after first h e = h

-- a name that isn't put
pub none_named : (m : ℕ → Text → Option Text) (c k : ℕ) (y x : Text) (new : Option Text) → new ≡ None → m c y ≡ None → m k x ≡ cond (nat_eq c k && same_name y x) new (m k x)
none_named m c k y x new e h = go (nat_eq c k) refl (same_name y x) refl
  where
    go : (a : Bool) → nat_eq c k ≡ a → (b : Bool) → same_name y x ≡ b → m k x ≡ cond (a && b) new (m k x)
    go true f true g = ap (λ (j : ℕ). m j x) (sym (eqb-true c k f)) ∙ ap (m c) (sym (same_told y x g)) ∙ h ∙ sym e
    go true f false g = refl
    go false f b g = refl

-- where nothing is put yet
pub none_put : (b k : ℕ) (old : Option Text) → (b ≡ k → old ≡ None) → old ≡ cond (nat_eq b k) None old
none_put b k old h = go (nat_eq b k) refl
  where
    go : (q : Bool) → nat_eq b k ≡ q → old ≡ cond q None old
    go true e = h (eqb-true b k e)
    go false e = refl

-- what one more class has
pub one_class : (F : ℕ → Option Text) (b k : ℕ) (here old new : Option Text) → old ≡ cond (nat_lt k b) (F k) None → here ≡ F b → new ≡ cond (nat_eq b k) here old → new ≡ cond (nat_lt k (b + 1)) (F k) None
one_class F b k here old new so_far own put = put ∙ go (nat_eq b k) refl
  where
    go : (q : Bool) → nat_eq b k ≡ q → cond q here old ≡ cond (nat_lt k (b + 1)) (F k) None
    go true e =
        let same : b ≡ k = eqb-true b k e in
        own ∙ ap F same ∙ sym (ap (λ (q : Bool). cond q (F k) None) (lt-ltb k (b + 1) (omega (arith, same))))
    go false e = so_far ∙ ap (λ (q : Bool). cond q (F k) None) (same_side (cases_lt k b))
      where
        apart : b ≡ k → ⊥
        apart s = eqb-false b k e s

        same_side : (k < b) ⊎ (b ≤ k) → nat_lt k b ≡ nat_lt k (b + 1)
        same_side (inl h) = lt-ltb k b h ∙ sym (lt-ltb k (b + 1) (omega (arith, h)))
        same_side (inr h) = le-ltb k b h ∙ sym (le-ltb k (b + 1) (omega (arith, h, apart)))
