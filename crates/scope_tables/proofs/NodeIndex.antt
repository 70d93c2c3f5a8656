-- The place of a node, where nodes rise along the places.
use Rattle.std.specs.Prelude.{◌≡◌, ◌<◌, ◌≤◌, ◌⊎◌, ℕ, zero, suc, true, false, List, [], ◌∷◌, length, map, get_or, nat_eq, slice_get, Some, MatchResult}
use Rattle.std.specs.List.{HoldsAt}
use Rattle.std.specs.List.Sorted.{IsBinarySearchResult, IsNonDecreasingBy, IsPartitionPoint, IsSearchInRange}
use Rattle.std.specs.Ordering.{nat_cmp, ordering_index}
use Rattle.std.specs.declared.cmp.Ordering.TheVariants.{Equal, Greater, Less}
use Rattle.std.proofs.Common.{Result, Ok, Err, refl, sym, ap, subst, ◌∙◌, arith, inl, inr}
use Rattle.std.proofs.lemmas.Bool.{cases_lt, eq-eqb}
use Rattle.std.proofs.lemmas.Bool.Decides.{nat_tests}
use Rattle.std.proofs.lemmas.Cmp.{ranked}
use Rattle.std.proofs.lemmas.Simd.{map-map}
use Rattle.list_laws.proofs.AnyOf.{any_from, any_map, any_none}
use Rattle.list_laws.proofs.Members.{contains_from_in, in_from_Contains}
use Rattle.place_list.proofs.PlacesStand.{mapped_at}
use Rattle.place_list.specs.TableViews.{entry_view, lists_in, places_in}
use Rattle.place_list.specs.Tables.{place_of, site_of}
use Rattle.place_list.specs.declared.tables.PlaceEntry.{PlaceEntry}
use Rattle.place_list.specs.declared.tables.PlaceList.{PlaceList}
use Rattle.scope_rules.proofs.PlacesRise.{places_rise}
use Rattle.scope_rules.specs.Bindings.{node}
use Rattle.scope_rules.specs.Evals.{contains}
use Rattle.scope_tables.specs.Views.{nodes_of}
use Rattle.tree_places.specs.Laws.{RiseFrom}
use Rattle.tree_nodes.specs.Tree.{Parts}
use Rattle.tree_places.specs.Places.{places}

pub nodes_in : (l : PlaceList) → map node (places_in l) ≡ nodes_of l.places.items
unfolding node place_of site_of
nodes_in l = map-map node (place_of (lists_in l)) (map entry_view l.places.items) ∙ map-map (λ e. node (place_of (lists_in l) e)) entry_view l.places.items

pub nodes_rise : (l : PlaceList) (t : Parts) → places_in l ≡ places t → RiseFrom 0 (nodes_of l.places.items)
nodes_rise l t e = subst (RiseFrom 0) (sym (ap (map node) e) ∙ nodes_in l) (places_rise t)

at_least : (m : ℕ) (es : List PlaceEntry) → RiseFrom m (nodes_of es) → (j : ℕ) (e : PlaceEntry) → j < length es → m ≤ (get_or es j e).node
at_least m [] r j e h = absurd (omega (arith, h))
at_least m (x ∷ es) r zero e h = r.0
at_least m (x ∷ es) r (suc j) e h =
    let k : suc x.node ≤ (get_or es j e).node = at_least (suc x.node) es r.1 j e (omega (arith, h)) in
    let o : m ≤ x.node = r.0 in
    omega (arith, k, o)

rise : (m : ℕ) (es : List PlaceEntry) → RiseFrom m (nodes_of es) → (i j : ℕ) (e : PlaceEntry) → i ≤ j → j < length es → (get_or es i e).node ≤ (get_or es j e).node
rise m [] r i j e o h = absurd (omega (arith, h))
rise m (x ∷ es) r zero zero e o h = omega arith
rise m (x ∷ es) r zero (suc j) e o h = let k : suc x.node ≤ (get_or es j e).node = at_least (suc x.node) es r.1 j e (omega (arith, h)) in omega (arith, k)
rise m (x ∷ es) r (suc i) zero e o h = absurd (omega (arith, o))
rise m (x ∷ es) r (suc i) (suc j) e o h = rise (suc x.node) es r.1 i j e (omega (arith, o)) (omega (arith, h))

order_rises : (a b n : ℕ) → a ≤ b → ordering_index (nat_cmp a n) ≤ ordering_index (nat_cmp b n)
order_rises a b n o = grind (arith, nat_tests, o)

item : {X : Type 0} (xs : List X) (i : ℕ) → i < length xs → (x : X) × (slice_get xs i ≡ Some x) × (get_or xs i x ≡ x)
item [] i h = absurd (omega (arith, h))
item (x ∷ xs) zero h = (x, refl, refl)
item (x ∷ xs) (suc i) h = item xs i (omega (arith, h))

differs : (n m : ℕ) → (m < n) ⊎ (n < m) → nat_eq n m ≡ false
differs n m (inl h) = grind (arith, nat_tests, h)
differs n m (inr h) = grind (arith, nat_tests, h)

module _ (es : List PlaceEntry) (n : ℕ) where
  pub orders_rise : RiseFrom 0 (nodes_of es) → IsNonDecreasingBy (λ e. ordering_index (nat_cmp e.node n)) es
  orders_rise r = λ i j d o h. order_rises (get_or es i d).node (get_or es j d).node n (rise 0 es r i j d o h)

  module _ (i : ℕ) (h : i < length es) (equal : HoldsAt (λ e. nat_cmp e.node n ≡ Equal) es i) where
    found_node : (item es i h).0.node ≡ n
    found_node = ranked (item es i h).0.node n Equal (sym (ap (λ (e : PlaceEntry). nat_cmp e.node n) (sym (item es i h).2) ∙ equal (item es i h).0))

    pub found_at : slice_get (nodes_of es) i ≡ Some n
    found_at = mapped_at (λ (e : PlaceEntry). e.node) es i (item es i h).0 (item es i h).1 ∙ ap (λ (k : ℕ). Some k) found_node

    pub is_contained : contains (nodes_of es) n ≡ true
    unfolding contains
    is_contained =
        any_map (λ (e : PlaceEntry). e.node) (nat_eq n) es
        ∙ any_from (λ (e : PlaceEntry). nat_eq n e.node) es (item es i h).0 (in_from_Contains es (item es i h).0 (i, h, (item es i h).2)) (eq-eqb n _ (sym found_node))

  pub none_at : (i : ℕ) → IsPartitionPoint (λ e. nat_cmp e.node n ≡ Less) (λ e. nat_cmp e.node n ≡ Greater) es i → contains (nodes_of es) n ≡ false
  unfolding contains
  none_at i parted = any_map (λ (e : PlaceEntry). e.node) (nat_eq n) es ∙ any_none (λ (e : PlaceEntry). nat_eq n e.node) es (λ e j. other e (contains_from_in es e j))
    where
      other : (e : PlaceEntry) → (k : ℕ) × (k < length es) × (get_or es k e ≡ e) → nat_eq n e.node ≡ false
      other e (k, h, is) = differs n e.node (elim (cases_lt k i) [
        | inl below ↦ inl (ranked e.node n Less (sym (ap (λ (x : PlaceEntry). nat_cmp x.node n) (sym is) ∙ parted.0 k e (omega arith) below)))
        | inr above ↦ inr (ranked e.node n Greater (sym (ap (λ (x : PlaceEntry). nat_cmp x.node n) (sym is) ∙ parted.1 k e above h)))
      ])

-- what a binary search says of the node
abbrev pub Finds : List PlaceEntry → ℕ → Result ℕ ℕ → Type 0
Finds es n r = MatchResult r (λ i. (slice_get (nodes_of es) i ≡ Some n) × (contains (nodes_of es) n ≡ true)) (λ i. contains (nodes_of es) n ≡ false)

pub searched : (es : List PlaceEntry) (n : ℕ) → RiseFrom 0 (nodes_of es) → (r : Result ℕ ℕ) → IsSearchInRange r (length es) → IsBinarySearchResult (λ e. nat_cmp e.node n) es r → Finds es n r
searched es n rises (Ok i) h equal = (found_at es n i h equal, is_contained es n i h equal)
searched es n rises (Err i) h parted = none_at es n i (parted (orders_rise es n rises))
