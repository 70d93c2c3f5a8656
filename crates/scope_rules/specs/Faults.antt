-- What makes a tree's scopes faulty. A redeclaration, a crossing and an undeclared private name are early errors of ECMA-262 (Static Semantics: Early Errors of Block, Script, Module, Functions, Try and Class Definitions). Three things are refused here that it takes: a plain function in a block of sloppy code and a `var` that crosses a catch parameter (its annex B), since such a name stands for two variables at once, and a parameter that reaches past a declaration of the body, since parameters and body are one scope here.
use Rattle.std.specs.Prelude.{◌≡◌, ◌↔◌, ℕ, Bool, false, not, ◌&&◌, ◌||◌, nat_eq, List, [], ◌∷◌, slice_get, take, Some, None, is_some, IsTrue}
use Rattle.std.specs.List.{list_any}
use Rattle.tree_nodes.specs.declared.table.Declared.TheVariants.{Function}
use Rattle.tree_nodes.specs.declared.table.Role.{Role}
use Rattle.tree_nodes.specs.declared.table.Role.TheVariants.{Declares}
use Rattle.tree_places.specs.Places.{Named, Site}
use Rattle.tree_places.specs.Scopes.{Scope, any_below}
use Rattle.scope_rules.specs.Bindings.{Bound, at_home, bound, declares_at, is_binding, is_node, node}
use Rattle.scope_rules.specs.Evals.{contains}
use Rattle.scope_rules.specs.Homes.{declares, declares_plainly, home, is_joinable, is_single, is_var, lies_in_var_scope, names_function, refers}
use Rattle.scope_rules.specs.PrivateNames.{private_binding}

-- ---- a name is declared again: two places declare one name in one home, neither is a function-name, and not both are joinable

unfoldable pub redeclares : {N : Type 0} → (N → N → Bool) → Named N → Named N → Bool
redeclares same p q = declares_plainly p.site && declares_at same p.name (home p.site) q && not (is_joinable p.site && is_joinable q.site)

unfoldable pub has_redeclaration : {N : Type 0} → (N → N → Bool) → List (Named N) → Bool
has_redeclaration same [] = false
has_redeclaration same (p ∷ ps) = list_any (redeclares same p) ps || has_redeclaration same ps

-- it is told at the later of the two: one of the places before p makes with it a redeclaration
unfoldable pub is_redeclaration : {N : Type 0} → (N → N → Bool) → List (Named N) → Named N → Bool
is_redeclaration same before p = list_any (λ q. redeclares same q p) before

-- there is a redeclaration exactly where some place is one after those before it
abbrev pub RedeclarationsStandAtPlaces : Type 0 → Type 0
RedeclarationsStandAtPlaces N = (same : N → N → Bool) (ps : List (Named N))
    → IsTrue (has_redeclaration same ps) ↔ ((i : ℕ) × (p : Named N) × (slice_get ps i ≡ Some p) × IsTrue (is_redeclaration same (take i ps) p))

-- ---- a `var` crosses a single place of its name: at its scope or further out, inside its home, lies that place's home

unfoldable pub is_single_at : {N : Type 0} → (N → N → Bool) → N → Scope → Named N → Bool
is_single_at same x h q = is_single q.site && at_home same x h q

unfoldable pub crosses : {N : Type 0} → (N → N → Bool) → List (Named N) → Named N → Bool
crosses same ps p = declares p.site && is_var p.site.setting.role && any_below (λ s. list_any (is_single_at same p.name s) ps) (home p.site) p.site.setting.scope

unfoldable pub has_crossing : {N : Type 0} → (N → N → Bool) → List (Named N) → Bool
has_crossing same ps = list_any (crosses same ps) ps

-- ---- a function that is neither async nor a generator is declared in a block, and the code around the declaration isn't strict

unfoldable pub is_plain_function : Role → Bool
is_plain_function (Declares (Function special)) = not special
is_plain_function _ = false

unfoldable pub is_sloppy_function : Site → Bool
is_sloppy_function s = declares s && is_plain_function s.setting.role && not s.setting.strict && not (lies_in_var_scope s)

unfoldable pub has_sloppy_function : {N : Type 0} → List (Named N) → Bool
has_sloppy_function ps = list_any (λ p. is_sloppy_function p.site) ps

-- ---- a private name is used that no class body around it declares

unfoldable pub is_undeclared : {N : Type 0} → (N → N → Bool) → List (Named N) → Named N → Bool
is_undeclared same ps p = p.site.private && not (is_some (private_binding same ps p))

unfoldable pub has_undeclared : {N : Type 0} → (N → N → Bool) → List (Named N) → Bool
has_undeclared same ps = list_any (is_undeclared same ps) ps

-- ---- a parameter or catch pattern reaches a declaration of the body: a reference in it has a binding in that scope, none of whose declaring places lies in these patterns. The function's own name isn't meant

unfoldable pub is_scope : ℕ → Scope → Bool
is_scope f [] = false
is_scope f (n ∷ outer) = nat_eq f n

-- the binding n lies in the scope f, and is no function-name
unfoldable pub binds_in : {N : Type 0} → ℕ → ℕ → Bound N → Bool
binds_in f n q = is_binding q && nat_eq (node q.place) n && is_scope f (home q.place.site) && not (names_function q.place.site)

-- a place of the binding n declares in the parameters or catch pattern of the scope f
unfoldable pub declares_in_head : {N : Type 0} → ℕ → ℕ → Bound N → Bool
declares_in_head f n q = declares q.place.site && is_node q.binding n && contains q.place.site.setting.heads f

unfoldable pub is_of_body : {N : Type 0} → List (Bound N) → ℕ → ℕ → Bool
is_of_body bs n f = list_any (binds_in f n) bs && not (list_any (declares_in_head f n) bs)

unfoldable pub reaches_body : {N : Type 0} → List (Bound N) → Bound N → Bool
reaches_body bs p = refers p.place.site && elim (p.binding) [ None ↦ false | Some n ↦ list_any (is_of_body bs n) p.place.site.setting.heads ]

unfoldable pub has_reach : {N : Type 0} → List (Bound N) → Bool
has_reach bs = list_any (reaches_body bs) bs

-- ---- all five

unfoldable pub has_fault : {N : Type 0} → (N → N → Bool) → List (Named N) → Bool
has_fault same ps = has_redeclaration same ps || has_crossing same ps || has_sloppy_function ps || has_undeclared same ps || has_reach (bound same ps)
