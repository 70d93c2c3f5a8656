-- What each private name is bound to (ECMA-262, Class Definitions, ResolvePrivateIdentifier).
use Rattle.std.specs.Prelude.{ℕ, Bool, true, false, ◌&&◌, nat_eq, List, [], ◌∷◌, map, Option, Some, None, find, filter, if◌then◌else◌}
use Rattle.std.specs.List.{list_any}
use Rattle.tree_nodes.specs.Tree.{Text}
use Rattle.tree_nodes.specs.declared.table.Role.{Role}
use Rattle.tree_nodes.specs.declared.table.Role.TheVariants.{MemberKey}
use Rattle.tree_places.specs.Places.{Named, Place, Site}
use Rattle.scope_rules.specs.Bindings.{node_of, same_name}

unfoldable pub is_member_key : Role → Bool
is_member_key MemberKey = true
is_member_key _ = false

-- the innermost class body around, if there is one, is the class of this number
unfoldable pub is_innermost : ℕ → List ℕ → Bool
is_innermost c [] = false
is_innermost c (k ∷ outer) = nat_eq k c

-- a private name that is a member's own key declares it in the class body in which it stands
unfoldable pub declares_private : ℕ → Site → Bool
declares_private c s = s.private && is_member_key s.setting.role && is_innermost c s.setting.classes

unfoldable pub declares_private_name : {N : Type 0} → (N → N → Bool) → N → ℕ → Named N → Bool
declares_private_name same x c q = declares_private c q.site && same q.name x

-- the first place, in the innermost of these class bodies that declares the name, which declares it there
unfoldable pub private_binder : {N : Type 0} → (N → N → Bool) → List (Named N) → N → List ℕ → Option ℕ
private_binder same ps x [] = None
private_binder same ps x (c ∷ outer) = elim (node_of (find (declares_private_name same x c) ps)) [ Some n ↦ Some n | None ↦ private_binder same ps x outer ]

-- the binding of a private name: heritage lies outside the class body, computed keys inside
unfoldable pub private_binding : {N : Type 0} → (N → N → Bool) → List (Named N) → Named N → Option ℕ
private_binding same ps p = if p.site.private then private_binder same ps p.name p.site.setting.classes else None

unfoldable pub private_bindings : {N : Type 0} → (N → N → Bool) → List (Named N) → List (Option ℕ)
private_bindings same ps = map (private_binding same ps) ps

-- ---- the names that a class declares

unfoldable pub is_among : List Text → Text → Bool
is_among names name = list_any (same_name name) names

-- each name once, where it comes first and isn't among those before
unfoldable pub distinct_after : List Text → List Text → List Text
distinct_after before [] = []
distinct_after before (x ∷ xs) = elim (is_among before x) [ true ↦ distinct_after before xs | false ↦ x ∷ distinct_after (x ∷ before) xs ]

unfoldable pub distinct : List Text → List Text
distinct names = distinct_after [] names

-- the distinct private names that a class body declares, in the order of their first places
unfoldable pub private_names : List Place → ℕ → List Text
private_names ps c = distinct (map (λ p. p.name) (filter (λ p. declares_private c p.site) ps))

-- the nearest of these class bodies that declares a private name
unfoldable pub declaring_class : List Place → Text → List ℕ → Option ℕ
declaring_class ps x [] = None
declaring_class ps x (c ∷ outer) = if is_among (private_names ps c) x then Some c else declaring_class ps x outer
