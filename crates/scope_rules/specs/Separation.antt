-- The law that bindings which are in use together have different names, as far as a tree has no crossing.
use Rattle.std.specs.Prelude.{◌≡◌, ◌⊎◌, Bool, true, not, ◌&&◌, List, [], ◌∷◌, Some, IsTrue, IsFalse}
use Rattle.std.specs.List.{list_any}
use Rattle.tree_nodes.specs.Tree.{Parts}
use Rattle.tree_places.specs.Places.{Place, Site, places, sites}
use Rattle.tree_places.specs.Scopes.{same_scope}
use Rattle.scope_rules.specs.Bindings.{node, same_name, shadower}
use Rattle.scope_rules.specs.Faults.{has_crossing}
use Rattle.scope_rules.specs.Homes.{home, names_function}
use Rattle.scope_rules.specs.Renamings.{IsBindingOf, is_live_in}

-- no two function-names have one home, as a function expression has one name at most
unfoldable pub function_names_apart : List Site → Bool
function_names_apart [] = true
function_names_apart (s ∷ ss) = not (names_function s && list_any (λ r. names_function r && same_scope (home r) (home s)) ss) && function_names_apart ss

-- the first is a function-name, and the second its shadower
abbrev pub IsShadowedBy : List Place → Place → Place → Type 0
IsShadowedBy ps b c = shadower same_name ps b ≡ Some (node c)

-- in a tree without a crossing, where a binding is live in the home of another and the two have one name, one is a function-name and the other its shadower
abbrev pub NamesSeparate : Type 0
NamesSeparate = (t : Parts) → IsTrue (function_names_apart (sites t)) → IsFalse (has_crossing same_name (places t))
    → (b c : Place) → IsBindingOf same_name (places t) b → IsBindingOf same_name (places t) c → IsTrue (is_live_in same_name (places t) b (home c.site)) → b.name ≡ c.name
    → (b ≡ c) ⊎ (IsShadowedBy (places t) b c ⊎ IsShadowedBy (places t) c b)
