-- Scopes in a table: each begins with its number, and goes on as its parent.
use Rattle.std.specs.Prelude.{◌≡◌, ◌⊎◌, ◌<◌, ◌≤◌, ℕ, true, zero, suc, List, [], ◌∷◌, length, get_or, slice_get, Option, Some, None}
use Rattle.std.proofs.Common.{refl, sym, ap, ◌∙◌, subst, arith, inl, inr}
use Rattle.std.proofs.lemmas.Bool.{or_cases}
use Rattle.std.proofs.lemmas.List.{length-map}
use Rattle.place_list.proofs.NumbersStand.{lineages_length}
use Rattle.place_list.proofs.OutwardWalks.{line_outwards, outer_below}
use Rattle.place_list.specs.Bounds.{IsBelow, IsBounded}
use Rattle.place_list.specs.TableViews.{list_view, scope_at, scope_parents, scopes_in}
use Rattle.place_list.specs.Tables.{list_at, or_none_listed}
use Rattle.place_list.specs.declared.tables.PlaceList.{PlaceList}
use Rattle.place_list.specs.declared.tables.ScopeEntry.{ScopeEntry}
use Rattle.scope_marks.specs.Open.{all_open}
use Rattle.tree_places.proofs.Outwards.{same_scope_eq}
use Rattle.tree_places.specs.Scopes.{Scope, is_inside, same_scope}

-- a scope begins with its number, and goes on as its parent, if it has one
abbrev pub HasOuter : List Scope → ℕ → Type 0
HasOuter ss n = (get_or ss n [] ≡ n ∷ []) ⊎ ((p : ℕ) × (p < n) × (get_or ss n [] ≡ n ∷ get_or ss p []))

abbrev pub IsTable : List Scope → Type 0
IsTable ss = (n : ℕ) → n < length ss → HasOuter ss n

-- a scope and those outwards are in the table under their numbers
abbrev pub Within : List Scope → Scope → Type 0
Within ss [] = Unit {0}
Within ss (n ∷ outer) = (n < length ss) × (get_or ss n [] ≡ n ∷ outer) × Within ss outer

pub within : (ss : List Scope) → IsTable ss → (fuel n : ℕ) → n < fuel → n < length ss → Within ss (get_or ss n [])
within ss t zero n h l = absurd (omega (arith, h))
within ss t (suc fuel) n h l = go (t n l) (λ p b. within ss t fuel p (omega (arith, b, h)) (omega (arith, b, l)))
  where
    go : HasOuter ss n → ((p : ℕ) → p < n → Within ss (get_or ss p [])) → Within ss (get_or ss n [])
    go (inl e) ih = subst (Within ss) (sym e) (l, e, tt)
    go (inr q) ih = subst (Within ss) (sym q.2) (l, q.2, ih q.0 q.1)

first_or : ℕ → Scope → ℕ
first_or d [] = d
first_or d (n ∷ ns) = n

-- a scope's first number is its own
pub own_number : (ss : List Scope) → IsTable ss → (m n : ℕ) (outer : Scope) → m < length ss → n ∷ outer ≡ get_or ss m [] → n ≡ m
unfolding first_or
own_number ss t m n outer l e = go (t m l)
  where
    go : HasOuter ss m → n ≡ m
    go (inl f) = ap (first_or n) (e ∙ f)
    go (inr q) = ap (first_or n) (e ∙ q.2)

pub never_empty : (ss : List Scope) → IsTable ss → (m : ℕ) → m < length ss → [] ≡ get_or ss m [] → ⊥
never_empty ss t m l e = go (t m l)
  where
    go : HasOuter ss m → ⊥
    go (inl f) = cc
    go (inr (p, b, f)) = cc

-- two numbers of one scope are one
pub one_number : (ss : List Scope) → IsTable ss → (n m : ℕ) → n < length ss → m < length ss → get_or ss n [] ≡ get_or ss m [] → n ≡ m
one_number ss t n m ln lm e = go (t n ln)
  where
    go : HasOuter ss n → n ≡ m
    go (inl f) = own_number ss t m n [] lm (sym f ∙ e)
    go (inr q) = own_number ss t m n (get_or ss q.0 []) lm (sym q.2 ∙ e)

-- what lies outwards has no higher number
pub inside_lower : (ss : List Scope) → IsTable ss → (fuel n m : ℕ) → n < fuel → n < length ss → m < length ss → is_inside (get_or ss n []) (get_or ss m []) ≡ true → m ≤ n
unfolding all_open
inside_lower ss t zero n m h ln lm i = absurd (omega (arith, h))
inside_lower ss t (suc fuel) n m h ln lm i = go (t n ln) (λ p b. inside_lower ss t fuel p m (omega (arith, b, h)) (omega (arith, b, ln)) lm)
  where
    along : (outer : Scope) → get_or ss n [] ≡ n ∷ outer → (is_inside outer (get_or ss m []) ≡ true → m ≤ n) → m ≤ n
    along outer e further = by_first (or_cases _ _ (subst (λ (r : Scope). is_inside r (get_or ss m []) ≡ true) e i))
      where
        by_first : (same_scope (n ∷ outer) (get_or ss m []) ≡ true) ⊎ (is_inside outer (get_or ss m []) ≡ true) → m ≤ n
        by_first (inl s) = let k : n ≡ m = own_number ss t m n outer lm (same_scope_eq (n ∷ outer) (get_or ss m []) s) in omega (arith, k)
        by_first (inr j) = further j

    go : HasOuter ss n → ((p : ℕ) → p < n → is_inside (get_or ss p []) (get_or ss m []) ≡ true → m ≤ p) → m ≤ n
    go (inl e) ih = along [] e (λ j. absurd (never_empty ss t m lm (same_scope_eq [] (get_or ss m []) j)))
    go (inr q) ih = along (get_or ss q.0 []) q.2 (λ j. let k : m ≤ q.0 = ih q.0 q.1 j in let b : q.0 < n = q.1 in omega (arith, k, b))

-- ---- the scopes of a list of places

-- what a number stands for
pub listed_at : (ss : List Scope) (n : ℕ) → list_at ss (Some n) ≡ get_or ss n []
unfolding list_at or_none_listed
listed_at [] n = refl
listed_at (s ∷ ss) zero = refl
listed_at (s ∷ ss) (suc n) = listed_at ss n

entry_at : {X : Type 0} (xs : List X) (k : ℕ) → k < length xs → (x : X) × (slice_get xs k ≡ Some x)
entry_at [] k h = absurd (omega (arith, h))
entry_at (x ∷ xs) zero h = (x, refl)
entry_at (x ∷ xs) (suc k) h = entry_at xs k (omega (arith, h))

pub as_many_scopes : (l : PlaceList) → length (scopes_in l) ≡ length l.scopes.items
as_many_scopes l = lineages_length (scope_parents l) ∙ length-map l.scopes.items (λ (e : ScopeEntry). e.parent)

module _ (l : PlaceList) (bounded : IsBounded (list_view l)) where
  pub scopes_are_table : IsTable (scopes_in l)
  unfolding list_at
  scopes_are_table n h =
      let w : (p : Option ℕ) × (slice_get (scope_parents l) n ≡ Some p) = entry_at (scope_parents l) n (omega (arith, lineages_length (scope_parents l), h)) in
      go w.0 (line_outwards (scope_parents l) bounded.scopes n w.0 w.1) (outer_below (scope_parents l) bounded.scopes n w.0 w.1)
    where
      go : (p : Option ℕ) → list_at (scopes_in l) (Some n) ≡ n ∷ list_at (scopes_in l) p → IsBelow n p → HasOuter (scopes_in l) n
      go None e b = inl (sym (listed_at (scopes_in l) n) ∙ e)
      go (Some p) e b = inr (p, b, sym (listed_at (scopes_in l) n) ∙ e ∙ ap (λ (o : Scope). n ∷ o) (listed_at (scopes_in l) p))

  pub scope_within : (o : Option ℕ) → IsBelow (length l.scopes.items) o → Within (scopes_in l) (scope_at l o)
  unfolding list_at
  scope_within None h = tt
  scope_within (Some n) h = subst (Within (scopes_in l)) (sym (listed_at (scopes_in l) n)) (within (scopes_in l) scopes_are_table (suc n) n (omega arith) (omega (arith, h, as_many_scopes l)))
