-- What the declarations say of a name in a scope.
use Rattle.std.specs.Prelude.{◌≡◌, ℕ, Bool, List, Option, is_some}
use Rattle.std.specs.List.{Contains, list_any}
use Rattle.place_list.specs.TableViews.{scope_at}
use Rattle.place_list.specs.declared.tables.PlaceEntry.{PlaceEntry}
use Rattle.place_list.specs.declared.tables.PlaceList.{PlaceList}
use Rattle.scope_rules.specs.Bindings.{or_else, plain_binder, binder, same_name}
use Rattle.scope_rules.specs.Faults.{is_single_at}
use Rattle.scope_tables.specs.Keys.{at_key, number_from}
use Rattle.scope_tables.specs.Views.{IsScope, places_of}
use Rattle.scope_tables.specs.declared.declarations.Declarations.{Declarations}

abbrev pub plain_at : Declarations → Option ℕ → ℕ → Option ℕ
plain_at d s x = at_key d.plain (number_from s) x

unfoldable pub binder_at : Declarations → Option ℕ → ℕ → Option ℕ
binder_at d s x = or_else (at_key d.plain (number_from s) x) (at_key d.function_names (number_from s) x)

abbrev pub single_at : Declarations → Option ℕ → ℕ → Bool
single_at d s x = is_some (at_key d.singles (number_from s) x)

-- these are what all these places declare: for every scope and the name of each place they answer as the definitions do
pub record AreDeclarations (l : PlaceList) (all : List PlaceEntry) (d : Declarations) : Type 0 where
  pub plain : (s : Option ℕ) → IsScope l s → (q : PlaceEntry) → Contains all q → plain_at d s q.name_number ≡ plain_binder same_name (places_of l all) q.name.now (scope_at l s)
  pub any : (s : Option ℕ) → IsScope l s → (q : PlaceEntry) → Contains all q → binder_at d s q.name_number ≡ binder same_name (places_of l all) q.name.now (scope_at l s)
  pub single : (s : Option ℕ) → IsScope l s → (q : PlaceEntry) → Contains all q → single_at d s q.name_number ≡ list_any (is_single_at same_name q.name.now (scope_at l s)) (places_of l all)
