-- Whether a place declares a name again, beside those so far.
use Rattle.std.specs.Prelude.{◌≡◌, ℕ, Bool, true, false, not, ◌&&◌, ◌||◌, List, [], ◌∷◌, bytes_eq}
use Rattle.std.specs.List.{list_any}
use Rattle.std.proofs.Common.{refl, sym, ap, ◌∙◌}
use Rattle.std.proofs.lemmas.Bool.{and_left, and_right, both_ways}
use Rattle.std.proofs.lemmas.Slice.Eq.{bytes_eq-Decides}
use Rattle.tree_places.specs.Places.{Place}
use Rattle.tree_places.specs.Scopes.{same_scope}
use Rattle.scope_rules.specs.Bindings.{at_home, declares_at, same_name}
use Rattle.scope_rules.specs.Faults.{is_redeclaration, is_single_at, redeclares}
use Rattle.scope_rules.specs.Homes.{declares_plainly, home, is_joinable, is_single}
use Rattle.list_laws.proofs.AnyOf.{any_same, any_weaken}

pub same_bytes_flip : (x y : List ℕ) → bytes_eq x y ≡ bytes_eq y x
same_bytes_flip x y = go _ refl _ refl
  where
    go : (t : Bool) → bytes_eq x y ≡ t → (u : Bool) → bytes_eq y x ≡ u → t ≡ u
    go true p true q = refl
    go false p false q = refl
    go true p false q = absurd (both_ways _ q ((bytes_eq-Decides y x).1 (sym ((bytes_eq-Decides x y).0 p))))
    go false p true q = absurd (both_ways _ p ((bytes_eq-Decides x y).1 (sym ((bytes_eq-Decides y x).0 q))))

-- ---- which of some pass and aren't both joinable with another

module _ {X : Type 0} (passes joins : X → Bool) where
  alone : X → Bool
  alone x = passes x && not (joins x)

  alone_passes : (x : X) → alone x ≡ true → passes x ≡ true
  unfolding alone
  alone_passes x = go (passes x) (joins x)
    where
      go : (a b : Bool) → (a && not b) ≡ true → a ≡ true
      go true b e = refl
      go false b e = e

  clash_step : (other d j l a b : Bool) → (b ≡ true → a ≡ true) → l ≡ (a && (b || not other)) → ((d && not (j && other)) || l) ≡ ((d || a) && (((d && not j) || b) || not other))
  clash_step other false j l a b mono e = e
  clash_step other true false l a b mono e = refl
  clash_step false true true l a true mono e = refl
  clash_step false true true l a false mono e = refl
  clash_step true true true l true true mono e = e
  clash_step true true true l false true mono e = absurd (both_ways _ refl (mono refl))
  clash_step true true true l true false mono e = e
  clash_step true true true l false false mono e = e

  pub some_clash : (other : Bool) (xs : List X) → list_any (λ x. passes x && not (joins x && other)) xs ≡ (list_any passes xs && (list_any (λ x. passes x && not (joins x)) xs || not other))
  some_clash other [] = refl
  some_clash other (x ∷ xs) =
      clash_step other (passes x) (joins x) _ (list_any passes xs) (list_any (λ y. passes y && not (joins y)) xs)
      (unfold alone in any_weaken (λ y. passes y && not (joins y)) passes alone_passes xs) (some_clash other xs)

-- ---- a place beside those so far

and_swap : (a b c : Bool) → ((a && b) && c) ≡ ((a && c) && b)
and_swap true true true = refl
and_swap true true false = refl
and_swap true false true = refl
and_swap true false false = refl
and_swap false b c = refl

module _ (q : Place) where
  one_clash : declares_plainly q.site ≡ true → (p : Place) → redeclares same_name p q ≡ (declares_at same_name q.name (home q.site) p && not (is_joinable p.site && is_joinable q.site))
  unfolding redeclares declares_at at_home same_name same_scope
  one_clash d p =
      ap (λ (b : Bool). (declares_plainly p.site && (b && (same_scope (home q.site) (home p.site) && bytes_eq q.name p.name))) && not (is_joinable p.site && is_joinable q.site)) d
      ∙ ap (λ (b : Bool). (declares_plainly p.site && (b && bytes_eq q.name p.name)) && not (is_joinable p.site && is_joinable q.site)) (same_bytes_flip (home q.site) (home p.site))
      ∙ ap (λ (b : Bool). (declares_plainly p.site && (same_scope (home p.site) (home q.site) && b)) && not (is_joinable p.site && is_joinable q.site)) (same_bytes_flip q.name p.name)

  single_is_alone : (p : Place) → is_single_at same_name q.name (home q.site) p ≡ (declares_at same_name q.name (home q.site) p && not (is_joinable p.site))
  unfolding is_single_at is_single declares_at
  single_is_alone p = and_swap (declares_plainly p.site) (not (is_joinable p.site)) (at_home same_name q.name (home q.site) p)

  -- it clashes with one of them, if one declares its name and one does so alone, or it does itself
  pub clashes : declares_plainly q.site ≡ true → (ps : List Place) → is_redeclaration same_name ps q
      ≡ (list_any (declares_at same_name q.name (home q.site)) ps && (list_any (is_single_at same_name q.name (home q.site)) ps || not (is_joinable q.site)))
  unfolding is_redeclaration
  clashes d ps =
      any_same _ _ ps (λ p i. one_clash d p)
      ∙ some_clash (declares_at same_name q.name (home q.site)) (λ p. is_joinable p.site) (is_joinable q.site) ps
      ∙ ap (λ (b : Bool). list_any (declares_at same_name q.name (home q.site)) ps && (b || not (is_joinable q.site))) (sym (any_same _ _ ps (λ p i. single_is_alone p)))

  none_clashes : declares_plainly q.site ≡ false → (p : Place) → redeclares same_name p q ≡ false
  unfolding redeclares declares_at
  none_clashes d p = and_left _ _ (and_right _ _ (and_left _ _ d))

  pub clashes_not : declares_plainly q.site ≡ false → (ps : List Place) → is_redeclaration same_name ps q ≡ false
  unfolding is_redeclaration
  clashes_not d [] = refl
  clashes_not d (p ∷ ps) = ap (λ (b : Bool). b || list_any (λ r. redeclares same_name r q) ps) (none_clashes d p) ∙ clashes_not d ps

-- ---- what the tests answer

pub by_the_second : (a b j : Bool) → a ≡ true → b ≡ true → b ≡ (a && (b || not j))
by_the_second a b j p q = rw (p, q) refl

pub by_the_third : (a b j : Bool) → a ≡ true → b ≡ false → not j ≡ (a && (b || not j))
by_the_third a b j p q = rw (p, q) refl

pub by_the_first : (a b j : Bool) → a ≡ false → a ≡ (a && (b || not j))
by_the_first a b j p = rw p refl
