-- Numbers of a tree that fit: its nodes rise, its scopes and its symbols are few.
use Rattle.std.specs.Prelude.{◌≡◌, ◌+◌, ◌<◌, ◌≤◌, ◌-◌, ◌^◌, ℕ, zero, suc, Bool, true, false, List, [], ◌∷◌, length, map, get_or, Option, Some, None, IfSome, if◌then◌else◌}
use Rattle.std.specs.List.{AllByRecursion}
use Rattle.std.proofs.Common.{refl, sym, ap, ◌∙◌, subst, arith, inl, inr}
use Rattle.std.proofs.lemmas.Simd.{map-map}
use Rattle.list_laws.proofs.Members.{In, contains_from_in}
use Rattle.number_tables.specs.PlacedNumbers.{RiseFrom}
use Rattle.place_list.specs.Bounds.{IsBelow}
use Rattle.place_list.specs.declared.tables.PlaceEntry.{PlaceEntry}
use Rattle.place_list.specs.declared.tables.PlaceList.{PlaceList}
use Rattle.tree_places.specs.Laws as laws
use Rattle.tree_symbols.specs.Known.{AreKnown, AreListed, home_number, is_symbol, listing_scope, nodes_of}
use Rattle.tree_symbols.specs.ReferenceTables.{AreTellable}
use Rattle.tree_symbols.specs.SymbolTables.{symbols_in}
use Rattle.tree_symbols.specs.declared.known.KnownPlace.{KnownPlace}
use Rattle.tree_symbols.proofs.Numbered.{same_length}
use Rattle.tree_symbols.proofs.Rising.{all_filter, rise_filter, rising_fit}

rise_same : (n : ℕ) (ms : List ℕ) → laws.RiseFrom n ms → RiseFrom n ms
rise_same n [] r = tt
rise_same n (m ∷ ms) r = (r.0, rise_same (suc m) ms r.1)

pub known_rise : (l : PlaceList) (ks : List KnownPlace) → AreKnown l ks → laws.RiseFrom 0 (map (λ (e : PlaceEntry). e.node) l.places.items) → RiseFrom 0 (nodes_of ks)
known_rise l ks known r =
    let same : map (λ (e : PlaceEntry). e.node) l.places.items ≡ nodes_of ks = ap (map (λ (e : PlaceEntry). e.node)) (sym known.places_are) ∙ map-map (λ (e : PlaceEntry). e.node) (λ (k : KnownPlace). k.place) ks in
    subst (λ (ns : List ℕ). RiseFrom 0 ns) same (rise_same 0 (map (λ (e : PlaceEntry). e.node) l.places.items) r)

-- the last of some rising numbers is the greatest
pub rising_last : (n : ℕ) (ms : List ℕ) (i d : ℕ) → suc i ≡ length ms → RiseFrom n ms → AllByRecursion (λ m. m < get_or ms i d + 1) ms
rising_last n [] i d e r = absurd (omega (arith, e))
rising_last n (m ∷ []) zero d e r = (omega arith, tt)
rising_last n (m ∷ []) (suc i) d e r = absurd (omega (arith, e))
rising_last n (m ∷ k ∷ ms) zero d e r = absurd (omega (arith, e))
rising_last n (m ∷ k ∷ ms) (suc i) d e r =
    let more : AllByRecursion (λ j. j < get_or (k ∷ ms) i d + 1) (k ∷ ms) = rising_last (suc m) (k ∷ ms) i d (omega (arith, e)) r.1 in
    let above : k < get_or (k ∷ ms) i d + 1 = more.0 in
    let next : suc m ≤ k = r.1.0 in
    (omega (arith, above, next), more)

listing_below : (n : ℕ) (b : Bool) (o : Option ℕ) → IsBelow n o → IfSome (if b then None else o) (λ s. s < n)
listing_below n true o h = tt
listing_below n false o h = h

listed_each : (n : ℕ) (ks : List KnownPlace) → ((k : KnownPlace) → In k ks → IsBelow n (home_number k)) → AreListed n ks
unfolding listing_scope
listed_each n [] f = tt
listed_each n (k ∷ ks) f = (listing_below n k.shadowed (home_number k) (f k (inl refl)), listed_each n ks (λ j i. f j (inr i)))

pub known_listed : (l : PlaceList) (ks : List KnownPlace) → AreKnown l ks → AreListed (length l.scopes.items) ks
known_listed l ks known = listed_each (length l.scopes.items) ks (λ k i. (known.known k (contains_from_in ks k i)).home)

pub some_weaken : (n m : ℕ) (o : Option ℕ) → n ≤ m → IfSome o (λ s. s < n) → IfSome o (λ s. s < m)
some_weaken n m None l h = tt
some_weaken n m (Some s) l h = omega (arith, l, h)

tellable_each : (nodes scopes : ℕ) (ks : List KnownPlace) → nodes ≤ 2 ^ 32 - 1 → scopes ≤ 2 ^ 32 - 1 → AllByRecursion (λ n. n < nodes) (nodes_of ks)
    → ((k : KnownPlace) → In k ks → IsBelow scopes k.place.setting.scope) → AreTellable ks
tellable_each nodes scopes [] a b below f = tt
tellable_each nodes scopes (k ∷ ks) a b below f =
    let here : k.place.node < nodes = below.0 in (
      record { node = omega (arith, a, here); scope = some_weaken scopes (2 ^ 32 - 1) k.place.setting.scope b (f k (inl refl)) },
      tellable_each nodes scopes ks a b below.1 (λ j i. f j (inr i)),
    )

pub known_tellable : (l : PlaceList) (ks : List KnownPlace) (nodes : ℕ) → AreKnown l ks → nodes ≤ 2 ^ 32 - 1 → length l.scopes.items ≤ 2 ^ 32 - 1 → AllByRecursion (λ n. n < nodes) (nodes_of ks) → AreTellable ks
known_tellable l ks nodes known a b below = tellable_each nodes (length l.scopes.items) ks a b below (λ k i. (known.known k (contains_from_in ks k i)).scope)

-- ---- as many nodes at least as places, and as symbols

module _ (nodes : ℕ) (ks : List KnownPlace) (rising : RiseFrom 0 (nodes_of ks)) (below : AllByRecursion (λ n. n < nodes) (nodes_of ks)) where
  pub places_fit : length ks ≤ nodes
  places_fit =
      let h : 0 + length (nodes_of ks) ≤ nodes = rising_fit 0 nodes (nodes_of ks) (omega arith) rising below in
      let e : length (nodes_of ks) ≡ length ks = same_length (λ (k : KnownPlace). k.place.node) ks in
      omega (arith, h, e)

  module _ (ss : List KnownPlace) (are : ss ≡ symbols_in ks) where
    pub symbols_rise : RiseFrom 0 (nodes_of ss)
    symbols_rise = subst (λ (qs : List KnownPlace). RiseFrom 0 (nodes_of qs)) (sym are) (rise_filter (λ (k : KnownPlace). k.place.node) is_symbol 0 ks rising)

    pub symbols_below : AllByRecursion (λ n. n < nodes) (nodes_of ss)
    symbols_below = subst (λ (qs : List KnownPlace). AllByRecursion (λ n. n < nodes) (nodes_of qs)) (sym are) (all_filter (λ n. n < nodes) (λ (k : KnownPlace). k.place.node) is_symbol ks below)

    pub symbols_fit : length ss ≤ nodes
    symbols_fit =
        let h : 0 + length (nodes_of ss) ≤ nodes = rising_fit 0 nodes (nodes_of ss) (omega arith) symbols_rise symbols_below in
        let e : length (nodes_of ss) ≡ length ss = same_length (λ (k : KnownPlace). k.place.node) ss in
        omega (arith, h, e)

    -- so are the numbers of their homes
    pub homes_below : (n : ℕ) → ((k : KnownPlace) → In k ks → IsBelow n (home_number k)) → AllByRecursion (λ o. IfSome o (λ s. s < n)) (map home_number ss)
    homes_below n f =
        subst (λ (qs : List KnownPlace). AllByRecursion (λ o. IfSome o (λ s. s < n)) (map home_number qs)) (sym are)
        (all_filter (λ (o : Option ℕ). IfSome o (λ s. s < n)) home_number is_symbol ks (homes_each ks f))
      where
        homes_each : (qs : List KnownPlace) → ((k : KnownPlace) → In k qs → IsBelow n (home_number k)) → AllByRecursion (λ o. IfSome o (λ s. s < n)) (map home_number qs)
        homes_each [] g = tt
        homes_each (k ∷ qs) g = (g k (inl refl), homes_each qs (λ j i. g j (inr i)))
