-- The numbers in the tables are numbers of entries, and what lies outside comes first: so a walk outwards ends, and looks nothing up past the end.
use Rattle.std.specs.Prelude.{◌≡◌, ◌<◌, ℕ, List, length, map, slice_get, Option, Some, None, IfSome}
use Rattle.std.specs.List.{AllByRecursion}
use Rattle.place_list.specs.TableWalk.{State}
use Rattle.place_list.specs.declared.setting.Setting.{Setting}

-- no number, or one below n
abbrev pub IsBelow : ℕ → Option ℕ → Type 0
IsBelow n o = IfSome o (λ k. k < n)

-- each entry's number outside is below its own
abbrev pub ComesBefore : List (Option ℕ) → Type 0
ComesBefore os = (n outer : ℕ) → slice_get os n ≡ Some (Some outer) → outer < n

-- by these var scopes of scopes, a scope has this var scope; none lies outside all scopes
abbrev pub HasVarScope : List (Option ℕ) → Option ℕ → Option ℕ → Type 0
HasVarScope var_scopes None v = None ≡ v
HasVarScope var_scopes (Some n) v = slice_get var_scopes n ≡ Some v

pub record IsKnown (s : State) (e : Setting) : Type 0 where
  pub scope : IsBelow (length s.scopes) e.scope
  pub var_scope : IsBelow (length s.scopes) e.var_scope
  pub class_body : IsBelow (length s.class_bodies) e.class_body
  pub head : IsBelow (length s.heads) e.head
  pub has_var_scope : HasVarScope s.var_scopes e.scope e.var_scope

pub record IsBounded (s : State) : Type 0 where
  pub places : AllByRecursion (λ e. IsKnown s e.setting) s.places
  pub withs : AllByRecursion (IsBelow (length s.scopes)) s.withs
  pub var_scopes : length s.var_scopes ≡ length s.scopes
  pub scopes : ComesBefore s.scopes
  pub class_bodies : ComesBefore s.class_bodies
  pub heads : ComesBefore (map (λ h. h.parent) s.heads)
  pub var_scope_numbers : AllByRecursion (λ e. IsBelow (length s.scopes) e.var_scope) s.scope_entries
  pub head_scopes : AllByRecursion (λ h. h.scope < length s.scopes) s.heads
