-- Scopes by their numbers.
use Rattle.std.specs.Prelude.{◌≡◌, ℕ, Bool, true, false, nat_eq, Option, Some, None}
use Rattle.std.specs.List.{AllByRecursion}
use Rattle.place_list.specs.TableViews.{places_in, scope_at}
use Rattle.place_list.specs.declared.tables.PlaceList.{PlaceList}

unfoldable pub same_number : Option ℕ → Option ℕ → Bool
same_number (Some a) (Some b) = nat_eq a b
same_number None None = true
same_number _ _ = false

-- each place of this scope has this var scope
abbrev pub HaveVarScope : PlaceList → Option ℕ → Option ℕ → Type 0
HaveVarScope l scope var_scope = AllByRecursion (λ p. p.site.setting.scope ≡ scope_at l scope → p.site.setting.var_scope ≡ scope_at l var_scope) (places_in l)
