-- Marks outwards that stop at the first mark.
use Rattle.std.specs.Prelude.{◌≡◌, ◌⊎◌, ◌<◌, ◌≤◌, ℕ, Bool, true, false, cond, ◌&&◌, ◌||◌, List, [], ◌∷◌, length, get_or}
use Rattle.std.specs.List.{list_any}
use Rattle.std.proofs.Common.{refl, sym, ap, ◌∙◌, subst, arith, inl, inr, set}
use Rattle.std.proofs.Math.Bool.{or-false, or_assoc}
use Rattle.std.proofs.lemmas.Bool.{and_parts, and_from, both_ways, cases_eq, or_cases, or_left, or_right}
use Rattle.std.proofs.lemmas.List.{get_or-set_other, get_or-set_same, length-set}
use Rattle.list_laws.proofs.AllOf.{AllOf}
use Rattle.list_laws.proofs.Tests.{tests_agree}
use Rattle.scope_marks.proofs.ScopesByNumber.{IsTable, Within, never_empty, own_number}
use Rattle.scope_marks.specs.Marks.{mark_each, mark_up}
use Rattle.scope_marks.specs.Open.{all_open}
use Rattle.tree_places.proofs.Outwards.{inside_length, inside_refl, inside_trans, same_scope_eq}
use Rattle.tree_places.specs.Scopes.{Scope, is_inside, same_scope}

pub length_up : (bits : List Bool) (c : Scope) → length (mark_up bits c) ≡ length bits
unfolding all_open
length_up bits [] = refl
length_up bits (n ∷ outer) = go (get_or bits n false) (length_up (set bits n true) outer)
  where
    go : (b : Bool) → length (mark_up (set bits n true) outer) ≡ length (set bits n true) → length (cond b bits (mark_up (set bits n true) outer)) ≡ length bits
    go true ih = refl
    go false ih = ih ∙ length-set bits n true

pub length_each : (bits : List Bool) (ps : List Scope) → length (mark_each bits ps) ≡ length bits
unfolding all_open
length_each bits [] = refl
length_each bits (p ∷ ps) = length_each (mark_up bits p) ps ∙ length_up bits p

module _ (ss : List Scope) (t : IsTable ss) (home : Scope) where
  abbrev at : ℕ → Scope
  at n = get_or ss n []

  -- from s on the way to the home
  abbrev between : Scope → ℕ → Bool
  between s m = is_inside s (get_or ss m []) && is_inside (get_or ss m []) home

  -- on the way from c to the home, all from a mark on is marked; so is the home
  pub record Closed (bits : List Bool) (c : Scope) : Type 0 where
    pub long : length bits ≡ length ss
    pub up : (n m : ℕ) → n < length ss → m < length ss → is_inside c (get_or ss n []) ≡ true → is_inside (get_or ss n []) (get_or ss m []) ≡ true → is_inside (get_or ss m []) home ≡ true → get_or bits n false ≡ true → get_or bits m false ≡ true
    pub at_home : (n : ℕ) → n < length ss → get_or ss n [] ≡ home → get_or bits n false ≡ true

  kept : (bits : List Bool) (i m : ℕ) → i < length bits → get_or bits m false ≡ true → get_or (set bits i true) m false ≡ true
  kept bits i m h e = go (cases_eq m i)
    where
      go : (m ≡ i) ⊎ (m ≡ i → ⊥) → get_or (set bits i true) m false ≡ true
      go (inl s) = ap (λ (j : ℕ). get_or (set bits i true) j false) s ∙ get_or-set_same bits i true false h
      go (inr apart) = get_or-set_other bits i m true false apart ∙ e

  -- the marks after one more on the way
  one_more : (bits : List Bool) (n : ℕ) (outer : Scope) → n < length bits → get_or ss n [] ≡ n ∷ outer → is_inside (n ∷ outer) home ≡ true
      → (m : ℕ) → m < length ss → (get_or (set bits n true) m false || between outer m) ≡ (get_or bits m false || between (n ∷ outer) m)
  unfolding all_open
  one_more bits n outer l e i m h = tests_agree _ _ (λ x. to (or_cases _ _ x)) (λ x. from (or_cases _ _ x))
    where
      to : (get_or (set bits n true) m false ≡ true) ⊎ (between outer m ≡ true) → (get_or bits m false || between (n ∷ outer) m) ≡ true
      to (inl x) = by_number (cases_eq m n)
        where
          by_number : (m ≡ n) ⊎ (m ≡ n → ⊥) → (get_or bits m false || between (n ∷ outer) m) ≡ true
          by_number (inl s) =
              let here : get_or ss m [] ≡ n ∷ outer = ap (λ (j : ℕ). get_or ss j []) s ∙ e in
              or_right (get_or bits m false) _ (and_from _ _
              (subst (λ (r : Scope). is_inside (n ∷ outer) r ≡ true) (sym here) (inside_refl (n ∷ outer)))
              (subst (λ (r : Scope). is_inside r home ≡ true) (sym here) i))
          by_number (inr apart) = or_left _ _ (sym (get_or-set_other bits n m true false apart) ∙ x)
      to (inr y) = let two : (is_inside outer (get_or ss m []) ≡ true) × (is_inside (get_or ss m []) home ≡ true) = and_parts _ _ y in
          or_right (get_or bits m false) _ (and_from _ _ (or_right (same_scope (n ∷ outer) (get_or ss m [])) _ two.0) two.1)

      from : (get_or bits m false ≡ true) ⊎ (between (n ∷ outer) m ≡ true) → (get_or (set bits n true) m false || between outer m) ≡ true
      from (inl x) = or_left _ _ (kept bits n m l x)
      from (inr y) = by_first (or_cases _ _ two.0)
        where
          two : (is_inside (n ∷ outer) (get_or ss m []) ≡ true) × (is_inside (get_or ss m []) home ≡ true)
          two = and_parts _ _ y

          by_first : (same_scope (n ∷ outer) (get_or ss m []) ≡ true) ⊎ (is_inside outer (get_or ss m []) ≡ true) → (get_or (set bits n true) m false || between outer m) ≡ true
          by_first (inl s) = or_left _ _ (subst (λ (j : ℕ). get_or (set bits n true) j false ≡ true) (own_number ss t m n outer h (same_scope_eq (n ∷ outer) (get_or ss m []) s)) (get_or-set_same bits n true false l))
          by_first (inr z) = or_right (get_or (set bits n true) m false) _ (and_from _ _ z two.1)

  -- what lies outwards is still closed
  closed_outer : (bits : List Bool) (n : ℕ) (outer : Scope) → n < length ss → get_or ss n [] ≡ n ∷ outer → Closed bits (n ∷ outer) → Closed (set bits n true) outer
  unfolding all_open
  closed_outer bits n outer l e k = record {
    long = length-set bits n true ∙ k.long;
    up = λ p q lp lq a b d x. kept bits n q (omega (arith, l, k.long)) (k.up p q lp lq (or_right (same_scope (n ∷ outer) (get_or ss p [])) _ a) b d (sym (get_or-set_other bits n p true false (apart p a)) ∙ x));
    at_home = λ j lj f. kept bits n j (omega (arith, l, k.long)) (k.at_home j lj f);
  }
    where
      apart : (p : ℕ) → is_inside outer (get_or ss p []) ≡ true → p ≡ n → ⊥
      apart p a s =
          let here : get_or ss p [] ≡ n ∷ outer = ap (λ (j : ℕ). get_or ss j []) s ∙ e in
          let shorter : length (n ∷ outer) ≤ length outer = inside_length outer (n ∷ outer) (subst (λ (r : Scope). is_inside outer r ≡ true) here a) in
          omega (arith, shorter)

  outer_inside : (bits : List Bool) (n : ℕ) (outer : Scope) → n < length ss → get_or ss n [] ≡ n ∷ outer → Closed bits (n ∷ outer) → get_or bits n false ≡ false → is_inside (n ∷ outer) home ≡ true → is_inside outer home ≡ true
  unfolding all_open
  outer_inside bits n outer l e k f i = go (or_cases _ _ i)
    where
      go : (same_scope (n ∷ outer) home ≡ true) ⊎ (is_inside outer home ≡ true) → is_inside outer home ≡ true
      go (inl s) = absurd (both_ways _ f (k.at_home n l (e ∙ same_scope_eq (n ∷ outer) home s)))
      go (inr j) = j

  -- the marks are those there were, and those on the way to the home
  pub marked_up : (bits : List Bool) (c : Scope) → Within ss c → is_inside c home ≡ true → Closed bits c
      → (m : ℕ) → m < length ss → get_or (mark_up bits c) m false ≡ (get_or bits m false || between c m)
  unfolding all_open
  marked_up bits [] w i k m h = tests_agree _ _ (λ x. or_left _ _ x) (λ x. go (or_cases _ _ x))
    where
      go : (get_or bits m false ≡ true) ⊎ (between [] m ≡ true) → get_or bits m false ≡ true
      go (inl x) = x
      go (inr y) = absurd (never_empty ss t m h (same_scope_eq [] (get_or ss m []) (and_parts _ _ y).0))
  marked_up bits (n ∷ outer) w i k m h = go (get_or bits n false) refl (marked_up (set bits n true) outer w.2)
    where
      go : (b : Bool) → get_or bits n false ≡ b
          → (is_inside outer home ≡ true → Closed (set bits n true) outer → (j : ℕ) → j < length ss → get_or (mark_up (set bits n true) outer) j false ≡ (get_or (set bits n true) j false || between outer j))
          → get_or (cond b bits (mark_up (set bits n true) outer)) m false ≡ (get_or bits m false || between (n ∷ outer) m)
      go true e ih = tests_agree _ _ (λ x. or_left _ _ x) (λ x. before (or_cases _ _ x))
        where
          before : (get_or bits m false ≡ true) ⊎ (between (n ∷ outer) m ≡ true) → get_or bits m false ≡ true
          before (inl x) = x
          before (inr y) =
              let two : (is_inside (n ∷ outer) (get_or ss m []) ≡ true) × (is_inside (get_or ss m []) home ≡ true) = and_parts _ _ y in
              k.up n m w.0 h (subst (λ (r : Scope). is_inside (n ∷ outer) r ≡ true) (sym w.1) (inside_refl (n ∷ outer)))
              (subst (λ (r : Scope). is_inside r (get_or ss m []) ≡ true) (sym w.1) two.0) two.1 e
      go false e ih =
          ih (outer_inside bits n outer w.0 w.1 k e i) (closed_outer bits n outer w.0 w.1 k) m h
          ∙ one_more bits n outer (omega (arith, w.0, k.long)) w.1 i m h

  -- ---- of several places

  -- it holds at home, and from where it holds up to the home
  pub record Upward (L : ℕ → Bool) : Type 0 where
    pub further : (n m : ℕ) → n < length ss → m < length ss → L n ≡ true → is_inside (get_or ss n []) (get_or ss m []) ≡ true → is_inside (get_or ss m []) home ≡ true → L m ≡ true
    pub in_home : (n : ℕ) → n < length ss → get_or ss n [] ≡ home → L n ≡ true

  upward_more : (L : ℕ → Bool) (p : Scope) → Upward L → Upward (λ m. L m || between p m)
  unfolding all_open
  upward_more L p u = record {
    further = λ n m ln lm x i j. go n m ln lm i j (or_cases _ _ x);
    in_home = λ n ln e. or_left _ _ (u.in_home n ln e);
  }
    where
      go : (n m : ℕ) → n < length ss → m < length ss → is_inside (get_or ss n []) (get_or ss m []) ≡ true → is_inside (get_or ss m []) home ≡ true → (L n ≡ true) ⊎ (between p n ≡ true) → (L m || between p m) ≡ true
      go n m ln lm i j (inl x) = or_left _ _ (u.further n m ln lm x i j)
      go n m ln lm i j (inr y) = or_right (L m) _ (and_from _ _ (inside_trans p (get_or ss n []) (get_or ss m []) (and_parts _ _ y).0 i) j)

  -- the marks of others, and those that hold
  abbrev Marked : List Bool → (ℕ → Bool) → (ℕ → Bool) → Type 0
  Marked bits E L = (m : ℕ) → m < length ss → get_or bits m false ≡ (E m || L m)

  closed_from : (bits : List Bool) (E L : ℕ → Bool) (p : Scope) → length bits ≡ length ss → Marked bits E L → Upward L
      → ((n : ℕ) → n < length ss → between p n ≡ true → E n ≡ true → ⊥) → Closed bits p
  unfolding all_open
  closed_from bits E L p l k u apart = record {
    long = l;
    up = λ n m ln lm a b d x. k m lm ∙ or_right (E m) _ (go n m ln lm a b d (or_cases _ _ (sym (k n ln) ∙ x)));
    at_home = λ n ln e. k n ln ∙ or_right (E n) _ (u.in_home n ln e);
  }
    where
      go : (n m : ℕ) → n < length ss → m < length ss → is_inside p (get_or ss n []) ≡ true → is_inside (get_or ss n []) (get_or ss m []) ≡ true → is_inside (get_or ss m []) home ≡ true → (E n ≡ true) ⊎ (L n ≡ true) → L m ≡ true
      go n m ln lm a b d (inl x) = absurd (apart n ln (and_from _ _ a (inside_trans (get_or ss n []) (get_or ss m []) home b d)) x)
      go n m ln lm a b d (inr y) = u.further n m ln lm y b d

  -- all places are marked up to the home, where no other has marks on the way
  pub marked_each : (ps : List Scope) (bits : List Bool) (E L : ℕ → Bool) → length bits ≡ length ss → Marked bits E L → Upward L
      → AllOf (λ p. Within ss p × (is_inside p home ≡ true)) ps → ((n : ℕ) → n < length ss → list_any (λ p. between p n) ps ≡ true → E n ≡ true → ⊥)
      → (m : ℕ) → m < length ss → get_or (mark_each bits ps) m false ≡ (E m || (L m || list_any (λ p. between p m) ps))
  unfolding all_open
  marked_each [] bits E L l k u a apart m h = k m h ∙ ap (λ b. E m || b) (sym (or-false (L m)))
  marked_each (p ∷ ps) bits E L l k u a apart m h =
      marked_each ps (mark_up bits p) E (λ j. L j || between p j) (length_up bits p ∙ l) more (upward_more L p u) a.1 (λ n ln x. apart n ln (or_right (between p n) _ x)) m h
      ∙ ap (λ b. E m || b) (or_assoc (L m) (between p m) (list_any (λ q. between q m) ps))
    where
      more : Marked (mark_up bits p) E (λ j. L j || between p j)
      more j hj =
          marked_up bits p a.0.0 a.0.1 (closed_from bits E L p l k u (λ n ln x. apart n ln (or_left _ _ x))) j hj
          ∙ ap (λ b. b || between p j) (k j hj) ∙ or_assoc (E j) (L j) (between p j)
