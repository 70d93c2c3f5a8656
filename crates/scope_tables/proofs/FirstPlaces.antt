-- The first places of names in scopes, one place after another.
use Rattle.std.specs.Prelude.{◌≡◌, ◌<◌, ℕ, Bool, true, false, cond, ◌&&◌, nat_eq, List, [], ◌∷◌, ◌++◌, length, get_or, find, Option, Some, None, if◌then◌else◌}
use Rattle.std.specs.List.{Contains}
use Rattle.std.proofs.Common.{refl, sym, ap, ◌∙◌}
use Rattle.std.proofs.lemmas.List.{get_or_default, map-append}
use Rattle.tree_nodes.specs.Tree.{Text}
use Rattle.tree_places.specs.Places.{Place}
use Rattle.tree_places.specs.Scopes.{Scope}
use Rattle.scope_rules.specs.Bindings.{at_home, node, node_of, or_else, same_name}
use Rattle.scope_tables.specs.Firsts.{first_at, passes, passes_at}
use Rattle.place_list.specs.TableViews.{place_in, scope_at}
use Rattle.place_list.specs.Tables.{place_of, site_of}
use Rattle.scope_tables.specs.Keys.{number_from}
use Rattle.scope_tables.specs.Views.{AllStand, IsScope, home_number, places_of, site_in}
use Rattle.place_list.specs.declared.tables.PlaceEntry.{PlaceEntry}
use Rattle.place_list.specs.declared.tables.PlaceList.{PlaceList}
use Rattle.scope_tables.specs.declared.sites.Declaring.{Declaring}
use Rattle.scope_tables.proofs.Numbers.{home_at, home_is_known, same_scopes}

pub contains_at : {X : Type 0} (xs : List X) (i : ℕ) (d : X) → i < length xs → Contains xs (get_or xs i d)
contains_at xs i d h = (i, h, get_or_default xs i (get_or xs i d) d h)

pub none_first : (d : Declaring) (x : Text) (h : Scope) → first_at d [] x h ≡ None
unfolding first_at node_of
none_first d x h = refl

-- with one place more
pub find_after : (test : Place → Bool) (ps : List Place) (p : Place)
    → node_of (find test (ps ++ p ∷ [])) ≡ or_else (node_of (find test ps)) (if test p then Some (node p) else None)
unfolding node_of or_else
find_after test [] p = go (test p)
  where
    go : (t : Bool) → node_of (cond t (Some p) None) ≡ or_else None (if t then Some (node p) else None)
    go true = refl
    go false = refl
find_after test (q ∷ qs) p = go (test q) (find_after test qs p)
  where
    go : (t : Bool) → node_of (find test (qs ++ p ∷ [])) ≡ or_else (node_of (find test qs)) (if test p then Some (node p) else None)
        → node_of (cond t (Some q) (find test (qs ++ p ∷ []))) ≡ or_else (node_of (cond t (Some q) (find test qs))) (if test p then Some (node p) else None)
    go true ih = refl
    go false ih = ih

first_after : (d : Declaring) (x : Text) (h : Scope) (ps : List Place) (p : Place)
    → first_at d (ps ++ p ∷ []) x h ≡ or_else (first_at d ps x h) (if passes_at d x h p then Some (node p) else None)
unfolding first_at
first_after d x h ps p = find_after (passes_at d x h) ps p

pub or_nothing : {X : Type 0} (o : Option X) → or_else o None ≡ o
unfolding or_else
or_nothing None = refl
or_nothing (Some x) = refl

module _ (l : PlaceList) (all : List PlaceEntry) (stand : AllStand l all) (d : Declaring) where
  -- a place that declares so is found by numbers exactly where it is found by name and scope
  found_by_numbers : (p q : PlaceEntry) (s : Option ℕ) → IsScope l s → Contains all p → Contains all q → passes d (site_in l p) ≡ true
      → passes_at d q.name.now (scope_at l s) (place_in l p) ≡ (nat_eq (number_from (home_number p)) (number_from s) && nat_eq p.name_number q.name_number)
  unfolding passes_at at_home place_of same_name
  found_by_numbers p q s h i j t =
      rw (t, ← home_at l p, same_scopes l (home_number p) s (home_is_known l p (stand.stands p i)) h, stand.numbered p q i j) refl

  module _ (m : ℕ → ℕ → Option ℕ) (some : List PlaceEntry) (p : PlaceEntry) (among : Contains all p)
      (so_far : (s : Option ℕ) → IsScope l s → (q : PlaceEntry) → Contains all q → m (number_from s) q.name_number ≡ first_at d (places_of l some) q.name.now (scope_at l s)) where
    one_more : (x : Text) (h : Scope) → first_at d (places_of l (some ++ p ∷ [])) x h
        ≡ or_else (first_at d (places_of l some) x h) (if passes_at d x h (place_in l p) then Some (node (place_in l p)) else None)
    one_more x h =
        ap (λ qs. first_at d qs x h) (map-append (place_in l) some (p ∷ []))
        ∙ first_after d x h (places_of l some) (place_in l p)

    -- the place declares so, and is put under its home and number
    pub taken_in : (h n : ℕ) → h ≡ number_from (home_number p) → n ≡ p.name_number → passes d (site_in l p) ≡ true
        → (m' : ℕ → ℕ → Option ℕ) → ((s x : ℕ) → m' s x ≡ or_else (m s x) (if nat_eq h s && nat_eq n x then Some p.node else None))
        → (s : Option ℕ) → IsScope l s → (q : PlaceEntry) → Contains all q → m' (number_from s) q.name_number ≡ first_at d (places_of l (some ++ p ∷ [])) q.name.now (scope_at l s)
    unfolding node place_of site_of
    taken_in h n is_home is_number t m' puts s i q j =
        puts (number_from s) q.name_number
        ∙ ap (λ o. or_else o (if nat_eq h (number_from s) && nat_eq n q.name_number then Some p.node else None)) (so_far s i q j)
        ∙ ap (λ (b : Bool). or_else (first_at d (places_of l some) q.name.now (scope_at l s)) (if b then Some p.node else None))
        (ap (λ (k : ℕ). nat_eq k (number_from s) && nat_eq n q.name_number) is_home ∙ ap (λ (k : ℕ). nat_eq (number_from (home_number p)) (number_from s) && nat_eq k q.name_number) is_number ∙ sym (found_by_numbers p q s i among j t))
        ∙ sym (one_more q.name.now (scope_at l s))

    -- or it doesn't
    pub passed_over : passes d (site_in l p) ≡ false
        → (s : Option ℕ) → IsScope l s → (q : PlaceEntry) → Contains all q → m (number_from s) q.name_number ≡ first_at d (places_of l (some ++ p ∷ [])) q.name.now (scope_at l s)
    unfolding passes_at place_of
    passed_over t s i q j =
        so_far s i q j
        ∙ sym (or_nothing _)
        ∙ sym (one_more q.name.now (scope_at l s) ∙ rw t refl)
