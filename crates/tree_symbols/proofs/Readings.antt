-- What the calls of a scoping read out of its tables.
use Rattle.std.specs.Prelude.{◌≡◌, ◌+◌, ◌<◌, ◌-◌, ℕ, zero, suc, Bool, true, List, length, map, get_or, slice_get, Option, Some, None, IfSome, IsTrue, ◌↔◌, unwrap_or}
use Rattle.std.specs.List.{range_with_len}
use Rattle.std.proofs.Common.{Vec, Global, refl, sym, ap, ◌∙◌, subst, arith}
use Rattle.std.proofs.lemmas.List.{get_or_default, length-map}
use Rattle.std.proofs.lemmas.List.FromFn.{length-range_with_len}
use Rattle.list_laws.proofs.Mapped.{map_same}
use Rattle.number_tables.specs.GroupsOf.{group_at, group_count}
use Rattle.place_list.proofs.NumbersStand.{lineages_length}
use Rattle.place_list.proofs.PlacesStand.{mapped_at}
use Rattle.place_list.specs.TableViews.{scope_node_in, scope_nodes_in, scope_parents, scopes_in}
use Rattle.place_list.specs.Tables.{scope_node_of}
use Rattle.place_list.specs.declared.tables.PlaceList.{PlaceList}
use Rattle.place_list.specs.declared.tables.ScopeEntry.{ScopeEntry}
use Rattle.scope_rules.specs.Bindings.{node, same_name}
use Rattle.scope_rules.specs.Evals.{holds_eval}
use Rattle.scope_rules.specs.Symbols.{scope_symbols, symbols}
use Rattle.syntax_sem.specs.SymbolId as symbol_id
use Rattle.tree_nodes.specs.Tree.{Text}
use Rattle.tree_places.specs.Places.{Place}
use Rattle.tree_places.specs.Scopes.{Scope}
use Rattle.tree_symbols.specs.Around.{listed_from}
use Rattle.tree_symbols.specs.Flags.{scope_flags}
use Rattle.tree_symbols.specs.Scopings.{IsScoping, under_names}
use Rattle.tree_symbols.specs.SymbolTables.{AreSymbolsOf}
use Rattle.tree_symbols.specs.declared.known.KnownPlace.{KnownPlace}
use Rattle.tree_symbols.specs.declared.scoping.Scoping.{Scoping}
use Rattle.tree_symbols.specs.declared.symbol_table.SymbolTable.{SymbolTable}
use Rattle.tree_symbols.proofs.Beside.{read_beside, same_count}
use Rattle.tree_symbols.proofs.Outwards.{bit_is}

some_told : {X : Type 0} (P Q : X → Type 0) → ((x : X) → P x → Q x) → (o : Option X) → IfSome o P → IfSome o Q
some_told P Q f None h = tt
some_told P Q f (Some x) h = f x h

-- what is told of the item of a number
pub told_of : {X : Type 0} (xs : List X) (P Q : X → Type 0) (j k : ℕ) → j ≡ k → ((x : X) → P x → Q x) → IfSome (slice_get xs j) P → IfSome (slice_get xs k) Q
told_of xs P Q j k e f h = subst (λ (n : ℕ). IfSome (slice_get xs n) Q) e (some_told P Q f (slice_get xs j) h)

pub symbols_many : (ps : List Place) (n : ℕ) (t : SymbolTable) → AreSymbolsOf ps n t → length t.symbols.items ≡ length (symbols same_name ps)
symbols_many ps n t a = same_count (λ (s : KnownPlace). s.place.node) (λ (b : Place). node b) t.symbols.items (symbols same_name ps) a.nodes_are

pub scopes_many : (l : PlaceList) → length (scopes_in l) ≡ length l.scopes.items
scopes_many l = lineages_length (scope_parents l) ∙ length-map l.scopes.items (λ (e : ScopeEntry). e.parent)

-- ---- by the numbers from 0

range_read : (n k j : ℕ) → k < n → slice_get (range_with_len j n) k ≡ Some (j + k)
range_read zero k j h = absurd (omega (arith, h))
range_read (suc n) zero j h = ap (λ (i : ℕ). Some i) (omega arith)
range_read (suc n) (suc k) j h = range_read n k (j + 1) (omega (arith, h)) ∙ ap (λ (i : ℕ). Some i) (omega arith)

pub numbered_count : {X Z : Type 0} (f : X → Z) (g : ℕ → Z) (xs : List X) (n : ℕ) → map f xs ≡ map g (range_with_len 0 n) → length xs ≡ n
numbered_count f g xs n e = same_count f g xs (range_with_len 0 n) e ∙ length-range_with_len 0 n

pub numbered_read : {X Z : Type 0} (f : X → Z) (g : ℕ → Z) (xs : List X) (n k : ℕ) (x : X) → map f xs ≡ map g (range_with_len 0 n) → k < n → x ≡ get_or xs k x → f x ≡ g k
numbered_read f g xs n k x e h r =
    let there : slice_get (range_with_len 0 n) k ≡ Some k = range_read n k 0 h ∙ ap (λ (i : ℕ). Some i) (omega arith) in
    subst (λ (o : Option ℕ). IfSome o (λ y. f x ≡ g y)) there
    (read_beside f g xs (range_with_len 0 n) k x e (let many : length xs ≡ n = numbered_count f g xs n e in omega (arith, many, h)) r)

-- ---- of a scope

pub scope_told : (l : PlaceList) (ps : List Place) (bits : List Bool) (k : ℕ) (r : ScopeEntry) (b : Bool) (f : ℕ) → bits ≡ map (holds_eval ps) (scopes_in l) → IsTrue b ↔ (slice_get bits k ≡ Some true)
    → slice_get (scope_nodes_in l) k ≡ Some (scope_node_in l r) → f ≡ scope_flags r.kind r.strict b
    → IfSome (slice_get (scope_nodes_in l) k) (λ n. IfSome (slice_get (scopes_in l) k) (λ s. f ≡ scope_flags n.kind n.strict (holds_eval ps s)))
unfolding scope_node_of
scope_told l ps bits k r b f are told node flags =
    subst (λ o. IfSome o (λ n. IfSome (slice_get (scopes_in l) k) (λ s. f ≡ scope_flags n.kind n.strict (holds_eval ps s)))) (sym node) (go (slice_get (scopes_in l) k) refl)
  where
    go : (o : Option Scope) → slice_get (scopes_in l) k ≡ o → IfSome o (λ s. f ≡ scope_flags r.kind r.strict (holds_eval ps s))
    go None e = tt
    go (Some s) e =
        flags ∙ ap (λ (x : Bool). scope_flags r.kind r.strict x) (bit_is bits k b (holds_eval ps s) told (ap (λ (bs : List Bool). slice_get bs k) are ∙ mapped_at (holds_eval ps) (scopes_in l) k s e))

pub listings_told : (ps : List Place) (scopes m : ℕ) (t : SymbolTable) → AreSymbolsOf ps scopes t → m ≡ scopes
    → listed_from t.scope_symbols 0 ≡ map (λ s. (s, scope_symbols same_name ps s)) (range_with_len 0 m)
unfolding listed_from
listings_told ps scopes m t a e =
    map_same (λ n. (n, map symbol_id.number_of (group_at t.scope_symbols n))) (λ n. (n, scope_symbols same_name ps n)) (range_with_len 0 (group_count t.scope_symbols - 0)) (λ n i. ap (λ (ks : List ℕ). (n, ks)) (a.listed n))
    ∙ ap (λ (k : ℕ). map (λ s. (s, scope_symbols same_name ps s)) (range_with_len 0 k)) (let many : group_count t.scope_symbols ≡ scopes = a.scopes_count in omega (arith, many, e))

-- ---- the name of a symbol

name_read : (xs : List (Option Text)) (k n : ℕ) (x : Option Text) → k ≡ n → k < length xs → x ≡ get_or xs k x → x ≡ get_or xs n None
name_read xs k n x e h r = r ∙ get_or_default xs k x None h ∙ ap (λ (i : ℕ). get_or xs i None) e

-- one that was set
pub set_name_told : (o : Option Place) (xs : List (Option Text)) (k n : ℕ) (x : Option Text) (t : Text) → k ≡ n → k < length xs → x ≡ get_or xs k x → x ≡ Some t
    → IfSome o (λ b. t ≡ unwrap_or (get_or xs n None) b.name)
set_name_told None xs k n x t e h r is = tt
set_name_told (Some b) xs k n x t e h r is = ap (λ (y : Option Text). unwrap_or y b.name) (sym is ∙ name_read xs k n x e h r)

-- or the one in the tree
pub own_name_told : (o : Option Place) (xs : List (Option Text)) (k n : ℕ) (x : Option Text) (t : Text) → k ≡ n → k < length xs → x ≡ get_or xs k x → x ≡ None
    → IfSome o (λ b. t ≡ b.name) → IfSome o (λ b. t ≡ unwrap_or (get_or xs n None) b.name)
own_name_told None xs k n x t e h r is told = tt
own_name_told (Some b) xs k n x t e h r is told = told ∙ ap (λ (y : Option Text). unwrap_or y b.name) (sym is ∙ name_read xs k n x e h r)

-- ---- under other names

pub names_change : (s : Scoping) (names : Vec (Option Text) Global) → IsScoping s → length names.items ≡ length s.names.items → IsScoping (under_names s names)
names_change s names h e = record {
  tables_are = h.tables_are;
  few_scopes = h.few_scopes;
  few_symbols = h.few_symbols;
  few_references = h.few_references;
  symbols_are = h.symbols_are;
  nodes_fit = h.nodes_fit;
  homes_fit = h.homes_fit;
  numbers_fit = h.numbers_fit;
  flags_are = h.flags_are;
  references_are = h.references_are;
  evals_are = h.evals_are;
  unresolved_are = h.unresolved_are;
  names_length = e ∙ h.names_length;
}
