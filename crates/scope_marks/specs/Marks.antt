-- Marks on scopes by their numbers, from a scope outwards up to the first that has one.
use Rattle.std.specs.Prelude.{Bool, true, false, List, [], ◌∷◌, map, filter, get_or, slice_set, if◌then◌else◌}
use Rattle.scope_rules.specs.Evals.{is_eval}
use Rattle.tree_places.specs.Places.{Place}
use Rattle.tree_places.specs.Scopes.{Scope}

unfoldable pub mark_up : List Bool → Scope → List Bool
mark_up bits [] = bits
mark_up bits (n ∷ outer) = if get_or bits n false then bits else mark_up (slice_set bits n true) outer

-- from each of these scopes, one after the other
unfoldable pub mark_each : List Bool → List Scope → List Bool
mark_each bits [] = bits
mark_each bits (s ∷ ss) = mark_each (mark_up bits s) ss

-- the scopes in which direct evals stand
unfoldable pub eval_scopes : List Place → List Scope
eval_scopes ps = map (λ q. q.site.setting.scope) (filter is_eval ps)
