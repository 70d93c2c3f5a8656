-- What each place is bound to (ECMA-262, ResolveBinding, with what each scope declares gathered before any code runs). A binding is a place, and stands as the number of its node. Names are of any type, with a test of which are the same.
use Rattle.std.specs.Prelude.{ℕ, Bool, false, ◌&&◌, nat_eq, List, map, Option, Some, None, bytes_eq, find, if◌then◌else◌}
use Rattle.tree_nodes.specs.Tree.{Text}
use Rattle.tree_places.specs.Places.{Named}
use Rattle.tree_places.specs.Scopes.{Scope, first_outwards, same_scope}
use Rattle.scope_rules.specs.Homes.{declares, declares_plainly, home, names_function, refers}

-- the names of a tree are texts
unfoldable pub same_name : Text → Text → Bool
same_name = bytes_eq

unfoldable pub node : {N : Type 0} → Named N → ℕ
node p = p.site.node

unfoldable pub node_of : {N : Type 0} → Option (Named N) → Option ℕ
node_of None = None
node_of (Some p) = Some (node p)

unfoldable pub is_node : Option ℕ → ℕ → Bool
is_node None n = false
is_node (Some m) n = nat_eq m n

unfoldable pub or_else : {X : Type 0} → Option X → Option X → Option X
or_else (Some x) other = Some x
or_else None other = other

-- q is under this name, and h is its home
unfoldable pub at_home : {N : Type 0} → (N → N → Bool) → N → Scope → Named N → Bool
at_home same x h q = same_scope (home q.site) h && same q.name x

-- it declares this name in this home, and is no function-name; and it is one
unfoldable pub declares_at : {N : Type 0} → (N → N → Bool) → N → Scope → Named N → Bool
declares_at same x h q = declares_plainly q.site && at_home same x h q

unfoldable pub names_function_at : {N : Type 0} → (N → N → Bool) → N → Scope → Named N → Bool
names_function_at same x h q = names_function q.site && at_home same x h q

-- the first place that declares the name in this home, function-names aside
unfoldable pub plain_binder : {N : Type 0} → (N → N → Bool) → List (Named N) → N → Scope → Option ℕ
plain_binder same ps x h = node_of (find (declares_at same x h) ps)

-- the same, or else the function-name there
unfoldable pub binder : {N : Type 0} → (N → N → Bool) → List (Named N) → N → Scope → Option ℕ
binder same ps x h = or_else (plain_binder same ps x h) (node_of (find (names_function_at same x h) ps))

-- the binding of a place. A reference has that of the nearest scope outwards in which its name is declared; a function-name is its own; what else declares has the first place of its home that declares the name, function-names aside; no other place has one
unfoldable pub binding : {N : Type 0} → (N → N → Bool) → List (Named N) → Named N → Option ℕ
binding same ps p =
    if refers p.site then first_outwards (binder same ps p.name) p.site.setting.scope else
    if names_function p.site then Some (node p) else
    if declares p.site then plain_binder same ps p.name (home p.site) else None

unfoldable pub bindings : {N : Type 0} → (N → N → Bool) → List (Named N) → List (Option ℕ)
bindings same ps = map (binding same ps) ps

-- a function-name is shadowed where its home declares its name otherwise; the binding of what does so is its shadower
unfoldable pub shadower : {N : Type 0} → (N → N → Bool) → List (Named N) → Named N → Option ℕ
shadower same ps p = if names_function p.site then plain_binder same ps p.name (home p.site) else None

-- ---- places with their bindings

pub record Bound (N : Type 0) : Type 0 where
  pub place : Named N
  pub binding : Option ℕ

unfoldable pub bound : {N : Type 0} → (N → N → Bool) → List (Named N) → List (Bound N)
bound same ps = map (λ p. record { place = p; binding = binding same ps p }) ps

-- a place is a binding where it is its own
unfoldable pub is_binding : {N : Type 0} → Bound N → Bool
is_binding b = declares b.place.site && is_node b.binding (node b.place)
