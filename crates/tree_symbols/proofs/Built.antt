-- The tables that are built are those of a scoping.
use Rattle.std.specs.Prelude.{◌≡◌, ◌<◌, ◌≤◌, ◌-◌, ◌^◌, ℕ, Bool, List, length, map, Option, IfSome}
use Rattle.std.specs.BTreeMap.{BTreeMap}
use Rattle.std.specs.Borrow.{Bor}
use Rattle.std.specs.List.{AllByRecursion, list_any, range_with_len}
use Rattle.std.proofs.Common.{Vec, Global, sym, ap, ◌∙◌, subst, arith}
use Rattle.list_laws.proofs.Filtered.{filter_most}
use Rattle.list_laws.proofs.Members.{contains_from_in}
use Rattle.number_tables.specs.GroupsOf.{items_of}
use Rattle.number_tables.specs.PlacedNumbers.{RiseFrom}
use Rattle.place_list.specs.TableViews.{place_in, places_in, scopes_in}
use Rattle.scope_rules.specs.Bindings.{same_name}
use Rattle.scope_rules.specs.Evals.{holds_eval}
use Rattle.scope_rules.specs.References.{references}
use Rattle.scope_rules.specs.Symbols as rules
use Rattle.scope_rules.specs.Symbols.{symbols}
use Rattle.scope_tables.specs.WholeTree.{AreTables}
use Rattle.scope_tables.specs.declared.tables.ScopeTables.{ScopeTables}
use Rattle.syntax_sem.specs.Bits.{union_of}
use Rattle.syntax_sem.specs.SymbolFlags.{bits_of}
use Rattle.syntax_sem.specs.declared.symbol.SymbolFlags.{SymbolFlags}
use Rattle.tree_nodes.specs.Tree.{Text}
use Rattle.tree_places.specs.Places.{Place}
use Rattle.tree_symbols.specs.Flags.{flags_of}
use Rattle.tree_symbols.specs.Known.{AreKnown, declared_by, home_number, nodes_of, refers}
use Rattle.tree_symbols.specs.ReferenceTables.{AreReferences, references_in}
use Rattle.tree_symbols.specs.Scopings.{IsScoping}
use Rattle.tree_symbols.specs.SymbolTables.{AreSymbols, AreSymbolsOf, IsRowOf, declared_symbol, symbols_in}
use Rattle.tree_symbols.specs.Unresolved.{has_name, leaves_name}
use Rattle.tree_symbols.specs.declared.known.KnownPlace.{KnownPlace}
use Rattle.tree_symbols.specs.declared.reference_table.ReferenceTable.{ReferenceTable}
use Rattle.tree_symbols.specs.declared.symbol_table.SymbolTable.{SymbolTable}
use Rattle.tree_symbols.proofs.Fitting.{homes_below, places_fit, some_weaken, symbols_below, symbols_fit}
use Rattle.tree_symbols.proofs.Numbered.{bound_below, declared_are, found_below, same_length}
use Rattle.tree_symbols.proofs.Readings.{symbols_many}
use Rattle.tree_symbols.proofs.ReferencesHold.{flags_told, references_are, references_told, unresolved_told}
use Rattle.tree_symbols.proofs.Rising.{all_weaken}
use Rattle.tree_symbols.proofs.RulesHold.{symbols_are, table_is}

module _ (whole : ScopeTables) (tables : AreTables whole) (ks : List KnownPlace) (known : AreKnown whole.list ks) (nodes : ℕ) (rising : RiseFrom 0 (nodes_of ks)) (below : AllByRecursion (λ n. n < nodes) (nodes_of ks))
    (few : nodes ≤ 2 ^ 32 - 1) (few_scopes : length whole.list.scopes.items ≤ 2 ^ 32 - 1) where
  symbols_count : length (symbols same_name (places_in whole.list)) ≡ length (symbols_in ks)
  symbols_count = sym (ap length (symbols_are whole.list ks known)) ∙ same_length (λ (k : KnownPlace). place_in whole.list k.place) (symbols_in ks)

  pub counted : (symbols : SymbolTable) (count : ℕ) → AreSymbols ks (length whole.list.scopes.items) symbols → ((ps : List Place) (n : ℕ) → AreSymbolsOf ps n symbols → count ≡ length (rules.symbols same_name ps)) → count ≡ length symbols.symbols.items
  counted symbols count a told =
      let t = table_is whole.list ks known (length whole.list.scopes.items) symbols a in
      told (places_in whole.list) (length whole.list.scopes.items) t ∙ sym (symbols_many (places_in whole.list) (length whole.list.scopes.items) symbols t)

  references_few : length (references (places_in whole.list)) ≤ 2 ^ 32 - 1
  references_few =
      let e : length (references (places_in whole.list)) ≡ length (references_in ks) = sym (ap length (references_are whole.list ks known)) ∙ same_length (λ (k : KnownPlace). place_in whole.list k.place) (references_in ks) in
      let most : length (references_in ks) ≤ length ks = filter_most refers ks in
      let fit : length ks ≤ nodes = places_fit nodes ks rising below in
      omega (arith, e, most, fit, few)

  module _ (symbols : SymbolTable) (flags : Vec SymbolFlags Global) (references : ReferenceTable) (names : BTreeMap (Bor Text) (Unit {0})) (evals : List Bool) (set : Vec (Option Text) Global)
      (row : List (Option ℕ)) (count : ℕ) where
    pub is_scoping : AreSymbols ks (length whole.list.scopes.items) symbols → IsRowOf symbols.symbols.items row → count ≡ length symbols.symbols.items
        → map bits_of flags.items ≡ map (λ k. union_of (items_of k (map (declared_by row) ks) (flags_of ks))) (range_with_len 0 count)
        → AreReferences ks count row references → ((x : Text) → has_name names x ≡ list_any (leaves_name x) ks) → evals ≡ map (holds_eval (places_in whole.list)) (scopes_in whole.list) → length set.items ≡ count
        → IsScoping (record { tables = whole; symbols = symbols; symbol_flags = flags; references = references; unresolved = names; evals = evals; names = set })
    is_scoping a is_row many flagged referred unresolved held named =
        let ss = symbols.symbols.items in
        let r : IsRowOf (symbols_in ks) row = subst (λ (qs : List KnownPlace). IsRowOf qs row) a.symbols_are is_row in
        let all : count ≡ length (symbols_in ks) = many ∙ ap length a.symbols_are in
        let fit : length symbols.symbols.items ≤ nodes = symbols_fit nodes ks rising below symbols.symbols.items a.symbols_are in
        let inside : length (symbols_in ks) ≤ 2 ^ 32 - 1 = (let e : length symbols.symbols.items ≡ length (symbols_in ks) = ap length a.symbols_are in omega (arith, e, fit, few)) in
        record {
          tables_are = tables;
          few_scopes = few_scopes;
          few_symbols = (let e : length (rules.symbols same_name (places_in whole.list)) ≡ length (symbols_in ks) = symbols_count in omega (arith, e, inside));
          few_references = references_few;
          symbols_are = table_is whole.list ks known (length whole.list.scopes.items) symbols a;
          nodes_fit = all_weaken (λ n. n < nodes) (λ n. n < 2 ^ 32 - 1) (λ n h. omega (arith, h, few)) (nodes_of ss) (symbols_below nodes ks rising below ss a.symbols_are);
          homes_fit = all_weaken (λ o. IfSome o (λ s. s < length whole.list.scopes.items)) (λ o. IfSome o (λ s. s < 2 ^ 32 - 1)) (λ o h. some_weaken (length whole.list.scopes.items) (2 ^ 32 - 1) o few_scopes h) (map home_number ss)
              (homes_below nodes ks rising below ss a.symbols_are (length whole.list.scopes.items) (λ k i. (known.known k (contains_from_in ks k i)).home));
          numbers_fit = λ n k e. let h : k < length (symbols_in ks) = found_below (length (symbols_in ks)) n (nodes_of ks) _ k (bound_below (symbols_in ks) ks) (sym (a.by_node n) ∙ e) in omega (arith, h, inside);
          flags_are = flagged
              ∙ ap (λ (os : List (Option ℕ)). map (λ k. union_of (items_of k os (flags_of ks))) (range_with_len 0 count)) (declared_are (symbols_in ks) row r ks)
              ∙ ap (λ (n : ℕ). map (λ k. union_of (items_of k (map (declared_symbol (symbols_in ks)) ks) (flags_of ks))) (range_with_len 0 n)) all
              ∙ flags_told whole.list ks known;
          references_are = references_told whole.list ks known row r references (subst (λ (n : ℕ). AreReferences ks n row references) all referred);
          evals_are = held;
          unresolved_are = λ x. unresolved x ∙ unresolved_told whole.list ks known x;
          names_length = named ∙ all ∙ sym symbols_count;
        }
