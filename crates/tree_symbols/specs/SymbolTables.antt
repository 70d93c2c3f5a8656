-- The table of the symbols of some places, as data.
use Rattle.std.specs.Prelude.{◌≡◌, ℕ, List, map, length, Option, Some, None, get_or, filter, if◌then◌else◌}
use Rattle.std.specs.List.{range_with_len}
use Rattle.number_tables.specs.GroupsOf.{group_at, group_count, items_of}
use Rattle.number_tables.specs.PlacedNumbers.{number_at}
use Rattle.scope_rules.specs.Bindings.{node, same_name}
use Rattle.scope_rules.specs.Homes.{home}
use Rattle.scope_rules.specs.Symbols.{declaring_places, node_symbol, own_number, scope_symbols, symbols}
use Rattle.syntax_sem.specs.NodeId as node_id
use Rattle.syntax_sem.specs.SymbolId as symbol_id
use Rattle.tree_symbols.specs.Known.{declares, home_number, is_symbol, listing_scope, nodes_of}
use Rattle.tree_places.specs.Places.{Place}
use Rattle.tree_symbols.specs.declared.known.KnownPlace.{KnownPlace}
use Rattle.tree_symbols.specs.declared.symbol_table.SymbolTable.{SymbolTable}

abbrev pub symbols_in : List KnownPlace → List KnownPlace
symbols_in ks = filter is_symbol ks

-- the numbers of so many things
abbrev pub first_numbers : ℕ → List (Option ℕ)
first_numbers count = map (λ n. Some n) (range_with_len 0 count)

-- the number of the first of these that is the node n
unfoldable pub number_among : List KnownPlace → ℕ → Option ℕ
number_among ss n = number_at n (nodes_of ss) (first_numbers (length ss))

-- the symbol that is this binding
unfoldable pub symbol_at : List KnownPlace → Option ℕ → Option ℕ
symbol_at ss None = None
symbol_at ss (Some n) = number_among ss n

unfoldable pub bound_symbol : List KnownPlace → KnownPlace → Option ℕ
bound_symbol ss k = symbol_at ss k.binding

unfoldable pub declared_symbol : List KnownPlace → KnownPlace → Option ℕ
declared_symbol ss k = if declares k then bound_symbol ss k else None

-- a row of the numbers of these symbols
abbrev pub IsRowOf : List KnownPlace → List (Option ℕ) → Type 0
IsRowOf ss row = (n : ℕ) → get_or row n None ≡ number_among ss n

pub record AreSymbols (ks : List KnownPlace) (scopes : ℕ) (t : SymbolTable) : Type 0 where
  pub symbols_are : t.symbols.items ≡ symbols_in ks
  pub by_node : (n : ℕ) → get_or t.node_symbols.items n None ≡ number_at n (nodes_of ks) (map (bound_symbol (symbols_in ks)) ks)
  pub declarations : (k : ℕ) → map node_id.number_of (group_at t.declarations k) ≡ items_of k (map (declared_symbol (symbols_in ks)) ks) (nodes_of ks)
  pub declarations_count : group_count t.declarations ≡ length (symbols_in ks)
  pub listed : (s : ℕ) → map symbol_id.number_of (group_at t.scope_symbols s) ≡ items_of s (map listing_scope (symbols_in ks)) (range_with_len 0 (length (symbols_in ks)))
  pub scopes_count : group_count t.scope_symbols ≡ scopes

-- the table is that of the symbols of these places, in a tree of so many scopes
pub record AreSymbolsOf (ps : List Place) (scopes : ℕ) (t : SymbolTable) : Type 0 where
  pub nodes_are : nodes_of t.symbols.items ≡ map node (symbols same_name ps)
  pub names_are : map (λ s. s.place.name.now) t.symbols.items ≡ map (λ b. b.name) (symbols same_name ps)
  pub homes_are : map home_number t.symbols.items ≡ map (λ b. own_number (home b.site)) (symbols same_name ps)
  pub by_node : (n : ℕ) → get_or t.node_symbols.items n None ≡ node_symbol same_name ps n
  pub declarations : (k : ℕ) → map node_id.number_of (group_at t.declarations k) ≡ map node (declaring_places same_name ps k)
  pub declarations_count : group_count t.declarations ≡ length (symbols same_name ps)
  pub listed : (s : ℕ) → map symbol_id.number_of (group_at t.scope_symbols s) ≡ scope_symbols same_name ps s
  pub scopes_count : group_count t.scope_symbols ≡ scopes
