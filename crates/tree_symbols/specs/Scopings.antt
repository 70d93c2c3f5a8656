-- The scoping of a tree, as data: which tree it is of, and what each call answers by.
use Rattle.std.specs.Prelude.{◌≡◌, ◌<◌, ◌≤◌, ◌-◌, ◌^◌, ℕ, List, [], ◌∷◌, map, length, get_or, Option, Some, None, IfSome}
use Rattle.std.specs.List.{AllByRecursion, range_with_len}
use Rattle.std.proofs.Common.{Vec, Global}
use Rattle.place_list.specs.Nodes.{ScopeNode}
use Rattle.place_list.specs.TableViews.{places_in, scope_nodes_in, scopes_in}
use Rattle.scope_rules.specs.Bindings.{same_name}
use Rattle.scope_rules.specs.Evals.{holds_eval}
use Rattle.scope_rules.specs.References.{is_unresolved, references}
use Rattle.scope_rules.specs.Symbols.{symbols}
use Rattle.scope_tables.specs.WholeTree.{AreTables}
use Rattle.scope_tables.specs.declared.tables.ScopeTables.{ScopeTables}
use Rattle.syntax_sem.specs.SymbolFlags as symbol
use Rattle.tree_nodes.specs.Tree.{Text}
use Rattle.tree_places.specs.Places.{Place}
use Rattle.tree_places.specs.Scopes.{Scope}
use Rattle.tree_symbols.specs.Flags.{symbol_flags}
use Rattle.tree_symbols.specs.Known.{IsRowBelow, home_number, nodes_of}
use Rattle.tree_symbols.specs.ReferenceTables.{AreReferencesOf}
use Rattle.tree_symbols.specs.SymbolTables.{AreSymbolsOf}
use Rattle.tree_symbols.specs.Unresolved.{has_name}
use Rattle.tree_symbols.specs.declared.scoping.Scoping.{Scoping}

-- the tables of the tree that it is of
abbrev pub tables_of : Scoping → ScopeTables
tables_of s = s.tables

-- its places and its scopes
abbrev pub places_of : Scoping → List Place
places_of s = places_in s.tables.list

abbrev pub scopes_of : Scoping → List Scope
scopes_of s = scopes_in s.tables.list

-- what is told of its scopes
abbrev pub scope_nodes_of : Scoping → List ScopeNode
scope_nodes_of s = scope_nodes_in s.tables.list

-- the number of the scope around a scope
unfoldable pub parent_of : Scope → Option ℕ
parent_of [] = None
parent_of (n ∷ []) = None
parent_of (n ∷ m ∷ outer) = Some m

-- the name that was set for the symbol k, if one was
abbrev pub name_set : Scoping → ℕ → Option Text
name_set s k = get_or s.names.items k None

-- numbers of ids fit
abbrev pub Fits : ℕ → Type 0
Fits n = n < 2 ^ 32 - 1

-- its tables are those of its tree
pub record IsScoping (s : Scoping) : Type 0 where
  pub tables_are : AreTables s.tables
  pub few_scopes : length s.tables.list.scopes.items ≤ 2 ^ 32 - 1
  pub few_symbols : length (symbols same_name (places_of s)) ≤ 2 ^ 32 - 1
  pub few_references : length (references (places_of s)) ≤ 2 ^ 32 - 1
  pub symbols_are : AreSymbolsOf (places_of s) (length s.tables.list.scopes.items) s.symbols
  pub nodes_fit : AllByRecursion Fits (nodes_of s.symbols.symbols.items)
  pub homes_fit : AllByRecursion (λ o. IfSome o Fits) (map home_number s.symbols.symbols.items)
  pub numbers_fit : IsRowBelow (2 ^ 32 - 1) s.symbols.node_symbols.items
  pub flags_are : map symbol.bits_of s.symbol_flags.items ≡ map (λ k. symbol_flags (places_of s) k) (range_with_len 0 (length (symbols same_name (places_of s))))
  pub references_are : AreReferencesOf (places_of s) s.references
  pub evals_are : s.evals ≡ map (holds_eval (places_of s)) (scopes_of s)
  pub unresolved_are : (x : Text) → has_name s.unresolved x ≡ is_unresolved same_name (places_of s) x
  pub names_length : length s.names.items ≡ length (symbols same_name (places_of s))

-- the same scoping, under these names
abbrev pub under_names : Scoping → Vec (Option Text) Global → Scoping
under_names s names = record s { names = names }
