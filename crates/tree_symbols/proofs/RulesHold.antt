-- The tables of symbols hold what the rules say of the places.
use Rattle.std.specs.Prelude.{◌≡◌, ◌+◌, ◌<◌, ℕ, suc, Bool, true, false, not, ◌&&◌, nat_eq, List, [], ◌∷◌, length, map, Option, Some, None, option_map, is_some, filter, find, if◌then◌else◌}
use Rattle.std.specs.List.{range_with_len}
use Rattle.std.proofs.Common.{refl, sym, ap, ◌∙◌, subst, arith, add-one, inl, inr}
use Rattle.std.proofs.lemmas.Simd.{map-map}
use Rattle.list_laws.proofs.Filtered.{filter_map_before, filter_same}
use Rattle.list_laws.proofs.Members.{In, contains_from_in, from_filter}
use Rattle.number_tables.specs.GroupsOf.{is_number, items_of}
use Rattle.number_tables.specs.PlacedNumbers.{number_at}
use Rattle.place_list.proofs.OutwardWalks.{line_form}
use Rattle.place_list.specs.Bounds.{IsBelow}
use Rattle.place_list.specs.TableViews.{entry_view, lists_in, place_in, places_in, scope_at, scope_parents}
use Rattle.place_list.specs.Tables.{list_at, place_of, setting_of, site_of}
use Rattle.place_list.specs.declared.tables.PlaceList.{PlaceList}
use Rattle.place_list.specs.declared.tables.ScopeEntry.{ScopeEntry}
use Rattle.scope_rules.specs.Bindings.{binding, is_node, node, same_name, shadower}
use Rattle.scope_rules.specs.Homes as homes
use Rattle.scope_rules.specs.Homes.{home, is_var}
use Rattle.scope_rules.specs.Symbols as rules
use Rattle.scope_rules.specs.Symbols.{declares_symbol, declaring_places, indices, indices_from, is_symbol_of_scope, node_symbol, own_number, scope_symbols, symbol_of, symbols}
use Rattle.tree_places.specs.Places.{Place}
use Rattle.tree_symbols.specs.Known.{AreKnown, IsKnown, declares, home_number, is_symbol, listing_scope, nodes_of}
use Rattle.tree_symbols.specs.SymbolTables.{AreSymbols, AreSymbolsOf, bound_symbol, declared_symbol, number_among, symbol_at, symbols_in}
use Rattle.tree_symbols.specs.declared.known.KnownPlace.{KnownPlace}
use Rattle.tree_symbols.specs.declared.symbol_table.SymbolTable.{SymbolTable}
use Rattle.tree_symbols.proofs.Numbered.{same_length}
use Rattle.tree_symbols.proofs.Filtered.{first_found, indices_map, items_filter, items_indices}

pub one_number : (o : Option ℕ) (k : ℕ) → is_number o k ≡ is_node o k
unfolding is_number is_node
one_number None k = refl
one_number (Some n) k = refl

module _ (l : PlaceList) (ks : List KnownPlace) (known : AreKnown l ks) where
  pub at : (k : KnownPlace) → In k ks → IsKnown l (places_in l) k
  at k i = known.known k (contains_from_in ks k i)

  pub places_are : map (λ (k : KnownPlace). place_in l k.place) ks ≡ places_in l
  places_are =
      sym (map-map (place_in l) (λ (k : KnownPlace). k.place) ks) ∙ ap (map (place_in l)) known.places_are ∙ sym (map-map (place_of (lists_in l)) entry_view l.places.items)

  same_test : (k : KnownPlace) → In k ks → is_symbol k ≡ rules.is_symbol same_name (places_in l) (place_in l k.place)
  unfolding is_symbol declares rules.is_symbol homes.declares node place_of site_of setting_of
  same_test k i = ap (λ (o : Option ℕ). declares k && is_node o k.place.node) (at k i).binding_is

  pub symbols_are : map (λ (k : KnownPlace). place_in l k.place) (symbols_in ks) ≡ symbols same_name (places_in l)
  unfolding symbols
  symbols_are =
      ap (map (λ (k : KnownPlace). place_in l k.place)) (filter_same is_symbol (λ k. rules.is_symbol same_name (places_in l) (place_in l k.place)) ks same_test)
      ∙ sym (filter_map_before (λ (k : KnownPlace). place_in l k.place) (rules.is_symbol same_name (places_in l)) ks)
      ∙ ap (filter (rules.is_symbol same_name (places_in l))) places_are

shifted : (j : ℕ) (o : Option ℕ) → option_map (λ k. suc j + k) o ≡ option_map (λ k. j + k) (option_map (λ k. suc k) o)
shifted j None = refl
shifted j (Some k) = ap (λ (n : ℕ). Some n) (omega arith)

unshifted : (o : Option ℕ) → option_map (λ k. 0 + k) o ≡ o
unshifted None = refl
unshifted (Some k) = ap (λ (n : ℕ). Some n) (omega arith)

number_from : (l : PlaceList) (ss : List KnownPlace) (j n : ℕ)
    → number_at n (nodes_of ss) (map (λ (i : ℕ). Some i) (range_with_len j (length ss))) ≡ option_map (λ k. j + k) (rules.number_among (map (λ (k : KnownPlace). place_in l k.place) ss) n)
unfolding number_at rules.number_among node place_of site_of
number_from l [] j n = refl
number_from l (s ∷ ss) j n =
    let more = ap (λ i. number_at n (nodes_of ss) (map (λ (m : ℕ). Some m) (range_with_len i (length ss)))) (add-one j) ∙ number_from l ss (suc j) n ∙ shifted j (rules.number_among (map (λ (k : KnownPlace). place_in l k.place) ss) n) in
    elim (nat_eq s.place.node n)
    as (λ (b : Bool). (if b then Some j else number_at n (nodes_of ss) (map (λ (i : ℕ). Some i) (range_with_len (j + 1) (length ss))))
    ≡ option_map (λ k. j + k) (if b then Some 0 else option_map (λ k. suc k) (rules.number_among (map (λ (k : KnownPlace). place_in l k.place) ss) n)))
    [ true ↦ ap (λ (i : ℕ). Some i) (omega arith) | false ↦ more ]

numbers_are : (l : PlaceList) (ss : List KnownPlace) (n : ℕ) → number_among ss n ≡ rules.number_among (map (λ (k : KnownPlace). place_in l k.place) ss) n
unfolding number_among
numbers_are l ss n = number_from l ss 0 n ∙ unshifted (rules.number_among (map (λ (k : KnownPlace). place_in l k.place) ss) n)

module _ (l : PlaceList) (ks : List KnownPlace) (known : AreKnown l ks) where
  symbol_is : (o : Option ℕ) → symbol_at (symbols_in ks) o ≡ elim o as (λ x. Option ℕ) [ None ↦ None | Some n ↦ rules.number_among (symbols same_name (places_in l)) n ]
  unfolding symbol_at
  symbol_is None = refl
  symbol_is (Some n) = numbers_are l (symbols_in ks) n ∙ ap (λ (ps : List Place). rules.number_among ps n) (symbols_are l ks known)

  pub bound_is : (k : KnownPlace) → In k ks → bound_symbol (symbols_in ks) k ≡ symbol_of same_name (places_in l) (place_in l k.place)
  unfolding bound_symbol symbol_of
  bound_is k i = ap (symbol_at (symbols_in ks)) (at l ks known k i).binding_is ∙ symbol_is (binding same_name (places_in l) (place_in l k.place))

  pub by_node_is : (n : ℕ) → number_at n (nodes_of ks) (map (bound_symbol (symbols_in ks)) ks) ≡ node_symbol same_name (places_in l) n
  unfolding node_symbol node place_of site_of
  by_node_is n =
      first_found (λ (p : Place). p.site.node) (λ (k : KnownPlace). place_in l k.place) (bound_symbol (symbols_in ks)) (symbol_of same_name (places_in l)) n ks bound_is
      ∙ ap (λ (ps : List Place). elim (find (λ (p : Place). nat_eq p.site.node n) ps) as (λ o. Option ℕ) [ None ↦ None | Some p ↦ symbol_of same_name (places_in l) p ]) (places_are l ks known)

  declared_test : (k : ℕ) (b : Bool) (o : Option ℕ) → is_number (if b then o else None) k ≡ (b && is_node o k)
  unfolding is_number
  declared_test k true o = one_number o k
  declared_test k false o = refl

  declares_is : (n : ℕ) (k : KnownPlace) → In k ks → is_number (declared_symbol (symbols_in ks) k) n ≡ declares_symbol same_name (places_in l) n (place_in l k.place)
  unfolding declared_symbol declares_symbol declares homes.declares place_of site_of setting_of
  declares_is n k i = declared_test n (declares k) (bound_symbol (symbols_in ks) k) ∙ ap (λ (o : Option ℕ). declares k && is_node o n) (bound_is k i)

  -- what is told of the places that declare a symbol
  pub declaring_items : {Y : Type 0} (f : Place → Y) (n : ℕ) → items_of n (map (declared_symbol (symbols_in ks)) ks) (map (λ (k : KnownPlace). f (place_in l k.place)) ks) ≡ map f (declaring_places same_name (places_in l) n)
  unfolding declaring_places
  declaring_items f n =
      items_filter (declared_symbol (symbols_in ks)) (λ (k : KnownPlace). f (place_in l k.place)) n ks
      ∙ ap (map (λ (k : KnownPlace). f (place_in l k.place))) (filter_same (λ k. is_number (declared_symbol (symbols_in ks) k) n) (λ k. declares_symbol same_name (places_in l) n (place_in l k.place)) ks (declares_is n))
      ∙ sym (map-map f (λ (k : KnownPlace). place_in l k.place) (filter (λ k. declares_symbol same_name (places_in l) n (place_in l k.place)) ks))
      ∙ ap (map f) (sym (filter_map_before (λ (k : KnownPlace). place_in l k.place) (declares_symbol same_name (places_in l) n) ks))
      ∙ ap (λ (ps : List Place). map f (filter (declares_symbol same_name (places_in l) n) ps)) (places_are l ks known)

  pub declarations_are : (n : ℕ) → items_of n (map (declared_symbol (symbols_in ks)) ks) (nodes_of ks) ≡ map node (declaring_places same_name (places_in l) n)
  unfolding node place_of site_of
  declarations_are n = declaring_items (λ (p : Place). p.site.node) n

  pub own_is : (o : Option ℕ) → IsBelow (length l.scopes.items) o → own_number (scope_at l o) ≡ o
  unfolding own_number list_at
  own_is None h = refl
  own_is (Some n) h = ap own_number (line_form (scope_parents l) n (subst (λ (m : ℕ). n < m) (sym (same_length (λ (e : ScopeEntry). e.parent) l.scopes.items)) h)).1

  own_either : (b : Bool) (v o : Option ℕ) → IsBelow (length l.scopes.items) (if b then v else o) → own_number (if b then scope_at l v else scope_at l o) ≡ (if b then v else o)
  own_either true v o h = own_is v h
  own_either false v o h = own_is o h

  home_is : (k : KnownPlace) → In k ks → own_number (home (place_in l k.place).site) ≡ home_number k
  unfolding home home_number place_of site_of setting_of
  home_is k i = own_either (is_var k.place.setting.role) k.place.setting.var_scope k.place.setting.scope (at l ks known k i).home

  listing_test : (s : ℕ) (b : Bool) (o : Option ℕ) → is_number (if b then None else o) s ≡ (not b && is_node o s)
  unfolding is_number
  listing_test s true o = refl
  listing_test s false o = one_number o s

  listing_is : (s : ℕ) (k : KnownPlace) → In k (symbols_in ks) → is_number (listing_scope k) s ≡ is_symbol_of_scope same_name (places_in l) s (place_in l k.place)
  unfolding listing_scope is_symbol_of_scope
  listing_is s k i =
      let j = (from_filter is_symbol ks k i).0 in
      listing_test s k.shadowed (home_number k)
      ∙ ap (λ (b : Bool). not b && is_node (home_number k) s) (at l ks known k j).shadowed_is
      ∙ ap (λ (o : Option ℕ). not (is_some (shadower same_name (places_in l) (place_in l k.place))) && is_node o s) (sym (home_is k j))

  pub scope_symbols_are : (s : ℕ) → items_of s (map listing_scope (symbols_in ks)) (range_with_len 0 (length (symbols_in ks))) ≡ scope_symbols same_name (places_in l) s
  unfolding scope_symbols indices
  scope_symbols_are s =
      items_indices listing_scope s 0 (symbols_in ks)
      ∙ indices_map (λ (k : KnownPlace). place_in l k.place) (is_symbol_of_scope same_name (places_in l) s) (λ k. is_number (listing_scope k) s) 0 (symbols_in ks) (listing_is s)
      ∙ ap (indices_from 0 (is_symbol_of_scope same_name (places_in l) s)) (symbols_are l ks known)

  homes_are : (ss : List KnownPlace) → ((k : KnownPlace) → In k ss → In k ks) → map home_number ss ≡ map (λ k. own_number (home (place_in l k.place).site)) ss
  homes_are [] f = refl
  homes_are (k ∷ ss) f =
      ap (λ (o : Option ℕ). o ∷ map home_number ss) (sym (home_is k (f k (inl refl))))
      ∙ ap (λ os. own_number (home (place_in l k.place).site) ∷ os) (homes_are ss (λ j i. f j (inr i)))

  -- so the table is that of the symbols of the places
  pub table_is : (scopes : ℕ) (t : SymbolTable) → AreSymbols ks scopes t → AreSymbolsOf (places_in l) scopes t
  unfolding node place_of site_of
  table_is scopes t a =
      let view : KnownPlace → Place = λ k. place_in l k.place in
      let found = ap (map view) a.symbols_are ∙ symbols_are l ks known in
      record {
        nodes_are = sym (map-map (λ (p : Place). p.site.node) view t.symbols.items) ∙ ap (map (λ (p : Place). p.site.node)) found;
        names_are = sym (map-map (λ (p : Place). p.name) view t.symbols.items) ∙ ap (map (λ (p : Place). p.name)) found;
        homes_are = ap (map home_number) a.symbols_are ∙ homes_are (symbols_in ks) (λ k i. (from_filter is_symbol ks k i).0)
            ∙ sym (map-map (λ (p : Place). own_number (home p.site)) view (symbols_in ks)) ∙ ap (map (λ (p : Place). own_number (home p.site))) (symbols_are l ks known);
        by_node = λ n. a.by_node n ∙ by_node_is n;
        declarations = λ k. a.declarations k ∙ declarations_are k;
        declarations_count = a.declarations_count ∙ sym (same_length view (symbols_in ks)) ∙ ap length (symbols_are l ks known);
        listed = λ s. a.listed s ∙ scope_symbols_are s;
        scopes_count = a.scopes_count;
      }
