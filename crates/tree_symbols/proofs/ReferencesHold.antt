-- The table of references, the flags of symbols and the unresolved names hold what the rules say of the places.
use Rattle.std.specs.Prelude.{◌≡◌, ℕ, not, ◌&&◌, List, length, map, Option, option_map, is_some, filter}
use Rattle.std.specs.List.{list_any, range_with_len}
use Rattle.std.proofs.Common.{refl, sym, ap, ◌∙◌}
use Rattle.std.proofs.lemmas.Simd.{map-map}
use Rattle.list_laws.proofs.AnyOf.{any_map, any_same}
use Rattle.list_laws.proofs.Filtered.{filter_map_before, filter_same}
use Rattle.list_laws.proofs.Mapped.{map_same}
use Rattle.list_laws.proofs.Members.{In, from_filter}
use Rattle.number_tables.specs.GroupsOf.{is_number, items_of}
use Rattle.place_list.specs.TableViews.{place_in, places_in}
use Rattle.place_list.specs.Tables.{place_of, setting_of, site_of}
use Rattle.place_list.specs.declared.tables.PlaceList.{PlaceList}
use Rattle.scope_rules.specs.Bindings.{binding, is_node, node, same_name}
use Rattle.scope_rules.specs.Homes as homes
use Rattle.scope_rules.specs.References.{is_unresolved, references, symbol_references}
use Rattle.scope_rules.specs.Symbols.{indices, indices_from, symbol_of, symbols}
use Rattle.syntax_sem.specs.Bits.{union_of}
use Rattle.syntax_sem.specs.NodeId as node_id
use Rattle.syntax_sem.specs.Reference.{reference_of}
use Rattle.syntax_sem.specs.ReferenceFlags.{bits_of}
use Rattle.syntax_sem.specs.ScopeId as scope_id
use Rattle.syntax_sem.specs.SymbolId as symbol_id
use Rattle.syntax_sem.specs.declared.node.node_id.NodeId.{NodeId}
use Rattle.syntax_sem.specs.declared.reference.Reference.{Reference}
use Rattle.syntax_sem.specs.declared.reference.ReferenceFlags.{ReferenceFlags}
use Rattle.syntax_sem.specs.declared.scope.scope_id.ScopeId.{ScopeId}
use Rattle.syntax_sem.specs.declared.symbol.symbol_id.SymbolId.{SymbolId}
use Rattle.tree_nodes.specs.Tree.{Text}
use Rattle.tree_places.specs.Places.{Place}
use Rattle.tree_symbols.specs.Flags.{flags_of, reference_flags, role_flags, symbol_flags}
use Rattle.tree_symbols.specs.Known.{AreKnown, entry_at, refers}
use Rattle.tree_symbols.specs.ReferenceTables.{AreReferences, AreReferencesOf, ReferenceView, or_root, references_in, told, told_by, view}
use Rattle.tree_symbols.specs.SymbolTables.{IsRowOf, bound_symbol, declared_symbol, symbols_in}
use Rattle.tree_symbols.specs.Unresolved.{leaves_name}
use Rattle.tree_symbols.specs.declared.known.KnownPlace.{KnownPlace}
use Rattle.tree_symbols.specs.declared.reference_table.ReferenceTable.{ReferenceTable}
use Rattle.tree_symbols.proofs.Filtered.{indices_map, items_indices}
use Rattle.tree_symbols.proofs.Numbered.{entry_is, same_length}
use Rattle.tree_symbols.proofs.RulesHold.{at, bound_is, declaring_items, one_number, own_is, places_are, symbols_are}

abbrev view_of : ℕ → Option ℕ → ℕ → ℕ → ReferenceView
view_of n o s f = record { node = n; symbol = o; scope = s; flags = f }

-- a reference that is read off a place
pub reference_told : (row : List (Option ℕ)) (k : KnownPlace) (r : Reference) (n : NodeId) (o : Option SymbolId) (s : ScopeId) (f : ReferenceFlags) → r ≡ reference_of n o s f
    → node_id.number_of n ≡ k.place.node → option_map symbol_id.number_of o ≡ entry_at row k.binding → scope_id.number_of s ≡ or_root k.place.setting.scope → bits_of f ≡ reference_flags k.place.setting.role
    → view r ≡ told_by row k
unfolding told_by view
reference_told row k r n o s f is node symbol scope flags =
    ap view is
    ∙ ap (λ (x : ℕ). view_of x (option_map symbol_id.number_of o) (scope_id.number_of s) (bits_of f)) node
    ∙ ap (λ (x : Option ℕ). view_of k.place.node x (scope_id.number_of s) (bits_of f)) symbol
    ∙ ap (λ (x : ℕ). view_of k.place.node (entry_at row k.binding) x (bits_of f)) scope
    ∙ ap (λ (x : ℕ). view_of k.place.node (entry_at row k.binding) (or_root k.place.setting.scope) x) flags

module _ (l : PlaceList) (ks : List KnownPlace) (known : AreKnown l ks) where
  same_test : (k : KnownPlace) → In k ks → refers k ≡ homes.refers (place_in l k.place).site
  unfolding refers homes.refers place_of site_of setting_of
  same_test k i = refl

  pub references_are : map (λ (k : KnownPlace). place_in l k.place) (references_in ks) ≡ references (places_in l)
  unfolding references
  references_are =
      ap (map (λ (k : KnownPlace). place_in l k.place)) (filter_same refers (λ k. homes.refers (place_in l k.place).site) ks same_test)
      ∙ sym (filter_map_before (λ (k : KnownPlace). place_in l k.place) (λ (p : Place). homes.refers p.site) ks)
      ∙ ap (filter (λ (p : Place). homes.refers p.site)) (places_are l ks known)

  module _ (row : List (Option ℕ)) (is_row : IsRowOf (symbols_in ks) row) where
    symbol_is : (k : KnownPlace) → In k ks → entry_at row k.binding ≡ symbol_of same_name (places_in l) (place_in l k.place)
    unfolding bound_symbol
    symbol_is k i = entry_is (symbols_in ks) row is_row k.binding ∙ bound_is l ks known k i

    told_is : (k : KnownPlace) → In k (references_in ks) → told_by row k ≡ told (places_in l) (place_in l k.place)
    unfolding told told_by node place_of site_of setting_of
    told_is k i =
        let j = (from_filter refers ks k i).0 in
        ap (λ (o : Option ℕ). view_of k.place.node o (or_root k.place.setting.scope) (reference_flags k.place.setting.role)) (symbol_is k j)
        ∙ ap (λ (o : Option ℕ). view_of k.place.node (symbol_of same_name (places_in l) (place_in l k.place)) (or_root o) (reference_flags k.place.setting.role))
        (sym (own_is l ks known k.place.setting.scope (at l ks known k j).scope))

    by_symbol_is : (k : ℕ) → items_of k (map (λ (p : KnownPlace). entry_at row p.binding) (references_in ks)) (range_with_len 0 (length (references_in ks))) ≡ symbol_references same_name (places_in l) k
    unfolding symbol_references indices
    by_symbol_is k =
        items_indices (λ (p : KnownPlace). entry_at row p.binding) k 0 (references_in ks)
        ∙ indices_map (λ (p : KnownPlace). place_in l p.place) (λ (p : Place). is_node (symbol_of same_name (places_in l) p) k) (λ (p : KnownPlace). is_number (entry_at row p.binding) k) 0 (references_in ks)
        (λ p i. one_number (entry_at row p.binding) k ∙ ap (λ (o : Option ℕ). is_node o k) (symbol_is p (from_filter refers ks p i).0))
        ∙ ap (indices_from 0 (λ (p : Place). is_node (symbol_of same_name (places_in l) p) k)) references_are

    pub references_told : (t : ReferenceTable) → AreReferences ks (length (symbols_in ks)) row t → AreReferencesOf (places_in l) t
    references_told t a = record {
      references_are = a.references_are ∙ map_same (told_by row) (λ (k : KnownPlace). told (places_in l) (place_in l k.place)) (references_in ks) told_is
          ∙ sym (map-map (told (places_in l)) (λ (k : KnownPlace). place_in l k.place) (references_in ks)) ∙ ap (map (told (places_in l))) references_are;
      by_symbol = λ k. a.by_symbol k ∙ by_symbol_is k;
      symbols_count = a.symbols_count ∙ sym (same_length (λ (k : KnownPlace). place_in l k.place) (symbols_in ks)) ∙ ap length (symbols_are l ks known);
    }

  -- ---- flags

  flags_at : (k : ℕ) → union_of (items_of k (map (declared_symbol (symbols_in ks)) ks) (flags_of ks)) ≡ symbol_flags (places_in l) k
  unfolding symbol_flags place_of site_of setting_of
  flags_at k = ap union_of (declaring_items l ks known (λ (p : Place). role_flags p.site.setting.role) k)

  pub flags_told : map (λ k. union_of (items_of k (map (declared_symbol (symbols_in ks)) ks) (flags_of ks))) (range_with_len 0 (length (symbols_in ks)))
      ≡ map (λ k. symbol_flags (places_in l) k) (range_with_len 0 (length (symbols same_name (places_in l))))
  flags_told =
      map_same (λ k. union_of (items_of k (map (declared_symbol (symbols_in ks)) ks) (flags_of ks))) (λ k. symbol_flags (places_in l) k) (range_with_len 0 (length (symbols_in ks))) (λ k i. flags_at k)
      ∙ ap (λ n. map (λ k. symbol_flags (places_in l) k) (range_with_len 0 n)) (sym (same_length (λ (k : KnownPlace). place_in l k.place) (symbols_in ks)) ∙ ap length (symbols_are l ks known))

  -- ---- unresolved names

  name_is : (x : Text) (k : KnownPlace) → In k ks
      → leaves_name x k ≡ (homes.refers (place_in l k.place).site && not (is_some (binding same_name (places_in l) (place_in l k.place))) && same_name x (place_in l k.place).name)
  unfolding leaves_name refers homes.refers place_of site_of setting_of
  name_is x k i = ap (λ (o : Option ℕ). refers k && not (is_some o) && same_name x k.place.name.now) (at l ks known k i).binding_is

  pub unresolved_told : (x : Text) → list_any (leaves_name x) ks ≡ is_unresolved same_name (places_in l) x
  unfolding is_unresolved
  unresolved_told x =
      any_same (leaves_name x) (λ (k : KnownPlace). homes.refers (place_in l k.place).site && not (is_some (binding same_name (places_in l) (place_in l k.place))) && same_name x (place_in l k.place).name) ks (name_is x)
      ∙ sym (any_map (λ (k : KnownPlace). place_in l k.place) (λ (p : Place). homes.refers p.site && not (is_some (binding same_name (places_in l) p)) && same_name x p.name) ks)
      ∙ ap (list_any (λ (p : Place). homes.refers p.site && not (is_some (binding same_name (places_in l) p)) && same_name x p.name)) (places_are l ks known)
