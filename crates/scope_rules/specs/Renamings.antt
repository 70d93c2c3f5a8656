-- When other names leave each place its binding: the premises and the law, over names of any two types.
use Rattle.std.specs.Prelude.{◌≡◌, ◌↔◌, Bool, ◌&&◌, ◌||◌, List, map, Some, None, IsTrue}
use Rattle.std.specs.List.{Contains, list_any}
use Rattle.tree_places.specs.Laws.{RiseFrom}
use Rattle.tree_places.specs.Places.{Named}
use Rattle.tree_places.specs.Scopes.{Scope, is_inside, same_scope}
use Rattle.scope_rules.specs.Bindings.{binding, bindings, bound, is_node, node}
use Rattle.scope_rules.specs.Faults.{has_crossing, has_fault, has_reach, has_redeclaration, has_sloppy_function, has_undeclared}
use Rattle.scope_rules.specs.Homes.{declares, home, refers}
use Rattle.scope_rules.specs.PrivateNames.{private_bindings}

-- a place under another name, and all places
unfoldable pub under : {A B : Type 0} → (Named A → B) → Named A → Named B
under name p = record { site = p.site; name = name p }

unfoldable pub all_under : {A B : Type 0} → (Named A → B) → List (Named A) → List (Named B)
all_under name ps = map (under name) ps

-- the test says which names are the same
abbrev pub TellsSame : {N : Type 0} → (N → N → Bool) → Type 0
TellsSame {N} same = (x y : N) → IsTrue (same x y) ↔ (x ≡ y)

-- b is one of these places, and its own binding
pub record IsBindingOf {N : Type 0} (same : N → N → Bool) (ps : List (Named N)) (b : Named N) : Type 0 where
  pub among : Contains ps b
  pub declares : IsTrue (declares b.site)
  pub own : binding same ps b ≡ Some (node b)

-- a place of the binding b has its scope at or inside s
unfoldable pub is_bound_inside : {N : Type 0} → (N → N → Bool) → List (Named N) → Named N → Scope → Bool
is_bound_inside same ps b s = list_any (λ p. is_node (binding same ps p) (node b) && is_inside p.site.setting.scope s) ps

-- a binding is live in its home, and in each scope inside it that one of its places reaches
unfoldable pub is_live_in : {N : Type 0} → (N → N → Bool) → List (Named N) → Named N → Scope → Bool
is_live_in same ps b s = same_scope s (home b.site) || is_inside s (home b.site) && is_bound_inside same ps b s

-- The other names are `new`. The places stand in the order of their numbers; those of one binding have one name; where a binding is live in the home of another, the two have one name only if they had one before; and where a reference without a binding lies in the home of a binding, the two have different names
pub record KeepsApart {A B : Type 0} (same : A → A → Bool) (ps : List (Named A)) (new : Named A → B) : Type 0 where
  pub in_order : RiseFrom 0 (map node ps)
  pub constant : (p b : Named A) → Contains ps p → Contains ps b → binding same ps p ≡ Some (node b) → new p ≡ new b
  pub no_new_equality : (b c : Named A) → IsBindingOf same ps b → IsBindingOf same ps c → IsTrue (is_live_in same ps b (home c.site)) → new b ≡ new c → b.name ≡ c.name
  pub no_capture : (p b : Named A) → Contains ps p → IsTrue (refers p.site) → binding same ps p ≡ None → IsBindingOf same ps b → IsTrue (is_inside p.site.setting.scope (home b.site)) → new p ≡ new b → ⊥

-- then every place has the binding that it had, or none as before
abbrev pub BindingsStay : Type 0 → Type 0 → Type 0
BindingsStay A B = (same : A → A → Bool) (same' : B → B → Bool) (ps : List (Named A)) (new : Named A → B)
    → TellsSame same → TellsSame same' → KeepsApart same ps new → bindings same' (all_under new ps) ≡ bindings same ps

-- the home of each place is its scope or one further out
abbrev pub HomesLieOutside : {N : Type 0} → List (Named N) → Type 0
HomesLieOutside {N} ps = (p : Named N) → Contains ps p → IsTrue (is_inside p.site.setting.scope (home p.site))

-- of no kind is there a fault that there wasn't before
pub record NoNewFault {A B : Type 0} (same : A → A → Bool) (ps : List (Named A)) (same' : B → B → Bool) (qs : List (Named B)) : Type 0 where
  pub redeclaration : IsTrue (has_redeclaration same' qs) → IsTrue (has_redeclaration same ps)
  pub crossing : IsTrue (has_crossing same' qs) → IsTrue (has_crossing same ps)
  pub sloppy_function : IsTrue (has_sloppy_function qs) → IsTrue (has_sloppy_function ps)
  pub undeclared : IsTrue (has_undeclared same' qs) → IsTrue (has_undeclared same ps)
  pub reach : IsTrue (has_reach (bound same' qs)) → IsTrue (has_reach (bound same ps))
  pub all : IsTrue (has_fault same' qs) → IsTrue (has_fault same ps)

-- the same for faults, where private names keep their bindings too
abbrev pub FaultsAreNeverNew : Type 0 → Type 0 → Type 0
FaultsAreNeverNew A B = (same : A → A → Bool) (same' : B → B → Bool) (ps : List (Named A)) (new : Named A → B)
    → TellsSame same → TellsSame same' → KeepsApart same ps new → HomesLieOutside ps → private_bindings same' (all_under new ps) ≡ private_bindings same ps
    → NoNewFault same ps same' (all_under new ps)
