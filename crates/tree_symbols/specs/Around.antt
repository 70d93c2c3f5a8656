-- The scopes around a scope, and what each scope lists, as far as they are left.
use Rattle.std.specs.Prelude.{◌≤◌, ◌-◌, ◌^◌, ℕ, List, map, length, Option}
use Rattle.std.specs.Borrow.{Bor}
use Rattle.std.specs.List.{range_with_len}
use Rattle.number_tables.specs.GroupsOf.{group_at, group_count}
use Rattle.number_tables.specs.declared.groups.Groups.{Groups}
use Rattle.place_list.specs.Bounds.{ComesBefore, IsBelow}
use Rattle.place_list.specs.Tables.{lineages, list_at}
use Rattle.place_list.specs.declared.tables.ScopeEntry.{ScopeEntry}
use Rattle.syntax_sem.specs.ScopeId as scope_id
use Rattle.syntax_sem.specs.SymbolId as symbol_id
use Rattle.syntax_sem.specs.declared.scope.scope_id.ScopeId.{ScopeId}
use Rattle.syntax_sem.specs.declared.symbol.symbol_id.SymbolId.{SymbolId}

abbrev pub parents_of : List ScopeEntry → List (Option ℕ)
parents_of es = map (λ e. e.parent) es

-- the numbers of a scope and of those around it, from the scope itself outwards
unfoldable pub scopes_from : List ScopeEntry → Option ℕ → List ℕ
scopes_from es o = list_at (lineages (parents_of es)) o

-- a walk outwards from there ends, and meets numbers of scopes alone
pub record LeadOutwards (es : List ScopeEntry) (o : Option ℕ) : Type 0 where
  pub comes_before : ComesBefore (parents_of es)
  pub few : length es ≤ 2 ^ 32 - 1
  pub at : IsBelow (length es) o

-- the scopes from the s-th on, each with the numbers of the symbols that it lists
unfoldable pub listed_from : Groups SymbolId → ℕ → List (ℕ × List ℕ)
listed_from g s = map (λ n. (n, map symbol_id.number_of (group_at g n))) (range_with_len s (group_count g - s))

pub record AreListings (g : Groups SymbolId) (s : ℕ) : Type 0 where
  pub few : group_count g ≤ 2 ^ 32 - 1
  pub at : s ≤ group_count g

-- a scope with its symbols, by number
abbrev pub listing : ScopeId × Bor (List SymbolId) → ℕ × List ℕ
listing x = (scope_id.number_of x.0, map symbol_id.number_of x.1.now)
