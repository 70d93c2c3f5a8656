-- The table of the references of some places, as data.
use Rattle.std.specs.Prelude.{◌≡◌, ◌<◌, ◌-◌, ◌^◌, ℕ, List, map, length, filter, Option, Some, None, IfSome, option_map}
use Rattle.std.specs.List.{AllByRecursion, range_with_len}
use Rattle.number_tables.specs.GroupsOf.{group_at, group_count, items_of}
use Rattle.scope_rules.specs.Bindings.{node, same_name}
use Rattle.scope_rules.specs.References.{references, symbol_references}
use Rattle.scope_rules.specs.Symbols.{own_number, symbol_of, symbols}
use Rattle.syntax_sem.specs.NodeId as node_id
use Rattle.syntax_sem.specs.Reference as reference
use Rattle.syntax_sem.specs.ReferenceFlags as flags
use Rattle.syntax_sem.specs.ReferenceId as reference_id
use Rattle.syntax_sem.specs.ScopeId as scope_id
use Rattle.syntax_sem.specs.SymbolId as symbol_id
use Rattle.syntax_sem.specs.declared.reference.Reference.{Reference}
use Rattle.tree_places.specs.Places.{Place}
use Rattle.tree_symbols.specs.Flags.{reference_flags}
use Rattle.tree_symbols.specs.Known.{entry_at, refers}
use Rattle.tree_symbols.specs.declared.known.KnownPlace.{KnownPlace}
use Rattle.tree_symbols.specs.declared.reference_table.ReferenceTable.{ReferenceTable}

-- a reference: its node, its symbol, its scope, its flags
pub record ReferenceView : Type 0 where
  pub node : ℕ
  pub symbol : Option ℕ
  pub scope : ℕ
  pub flags : ℕ

unfoldable pub view : Reference → ReferenceView
view r = record {
  node = node_id.number_of (reference.node_of r);
  symbol = option_map symbol_id.number_of (reference.symbol_of r);
  scope = scope_id.number_of (reference.scope_of r);
  flags = flags.bits_of (reference.flags_of r);
}

-- a number, and the root's where there is none
unfoldable pub or_root : Option ℕ → ℕ
or_root o = elim o [ Some n ↦ n | None ↦ 0 ]

-- what is told of the reference that is this place. What lies outside all scopes, as no place of a program does, counts to the root
unfoldable pub told : List Place → Place → ReferenceView
told ps p = record {
  node = node p;
  symbol = symbol_of same_name ps p;
  scope = or_root (own_number p.site.setting.scope);
  flags = reference_flags p.site.setting.role;
}

-- the same, by a row of the numbers of symbols
unfoldable pub told_by : List (Option ℕ) → KnownPlace → ReferenceView
told_by row k = record {
  node = k.place.node;
  symbol = entry_at row k.binding;
  scope = or_root k.place.setting.scope;
  flags = reference_flags k.place.setting.role;
}

-- ids have these numbers
pub record IsTellable (k : KnownPlace) : Type 0 where
  pub node : k.place.node < 2 ^ 32 - 1
  pub scope : IfSome k.place.setting.scope (λ s. s < 2 ^ 32 - 1)

abbrev pub AreTellable : List KnownPlace → Type 0
AreTellable ks = AllByRecursion IsTellable ks

abbrev pub references_in : List KnownPlace → List KnownPlace
references_in ks = filter refers ks

-- the table is that of the references among these, by a row of the numbers of so many symbols
pub record AreReferences (ks : List KnownPlace) (symbols : ℕ) (row : List (Option ℕ)) (t : ReferenceTable) : Type 0 where
  pub references_are : map view t.references.items ≡ map (told_by row) (references_in ks)
  pub by_symbol : (k : ℕ) → map reference_id.number_of (group_at t.symbol_references k) ≡ items_of k (map (λ p. entry_at row p.binding) (references_in ks)) (range_with_len 0 (length (references_in ks)))
  pub symbols_count : group_count t.symbol_references ≡ symbols

-- the table is that of the references of these places
pub record AreReferencesOf (ps : List Place) (t : ReferenceTable) : Type 0 where
  pub references_are : map view t.references.items ≡ map (told ps) (references ps)
  pub by_symbol : (k : ℕ) → map reference_id.number_of (group_at t.symbol_references k) ≡ symbol_references same_name ps k
  pub symbols_count : group_count t.symbol_references ≡ length (symbols same_name ps)
