-- Which rules a place goes against.
use Rattle.std.specs.Prelude.{ℕ, Bool, false, not, ◌&&◌, ◌||◌, List, [], ◌∷◌, is_some}
use Rattle.std.specs.List.{list_any}
use Rattle.place_list.specs.Nodes.{NestedNode}
use Rattle.scope_report.specs.Exports.{is_exported}
use Rattle.scope_report.specs.declared.verdict.Verdict.{Verdict}
use Rattle.scope_rules.specs.Bindings.{Bound, at_home, binding, bound, is_binding, is_node, node, same_name}
use Rattle.scope_rules.specs.Homes.{declares, home, refers}
use Rattle.scope_tables.specs.FaultsOf.{faults_of}
use Rattle.tree_nodes.specs.Tree.{Text}
use Rattle.tree_places.specs.Places.{Place}
use Rattle.tree_places.specs.Scopes.{Scope}

-- ---- unused: a binding that no reference has and that isn't exported

-- q is a reference to the binding n
unfoldable pub uses : ℕ → Bound Text → Bool
uses n q = refers q.place.site && is_node q.binding n

unfoldable pub is_unused : List NestedNode → List (Bound Text) → Bound Text → Bool
is_unused ns bs b = is_binding b && not (list_any (uses (node b.place)) bs) && not (is_exported ns bs b)

-- ---- unresolved: a reference without binding

unfoldable pub is_unresolved : Bound Text → Bool
is_unresolved b = refers b.place.site && not (is_some b.binding)

-- ---- shadow: a binding, and a scope outside its home is the home of a place of its name

-- q declares the name x in the scope h
unfoldable pub declares_in : Text → Scope → Place → Bool
declares_in x h q = declares q.site && at_home same_name x h q

unfoldable pub outside : Scope → Scope
outside [] = []
outside (n ∷ further) = further

-- this scope, or one further out, passes
unfoldable pub any_outwards : (Scope → Bool) → Scope → Bool
any_outwards test [] = false
any_outwards test (n ∷ further) = test (n ∷ further) || any_outwards test further

unfoldable pub is_declared_outside : List Place → Place → Bool
is_declared_outside ps p = any_outwards (λ h. list_any (declares_in p.name h) ps) (outside (home p.site))

unfoldable pub is_shadowing : List Place → Bound Text → Bool
is_shadowing ps b = is_binding b && is_declared_outside ps b.place

-- ---- all of them

unfoldable pub with_binding : List Place → Place → Bound Text
with_binding ps p = record { place = p; binding = binding same_name ps p }

-- of a place, among all these places and after those before it, in the tree of these nodes
unfoldable pub verdict_on : List NestedNode → List Place → List Place → Place → Verdict
verdict_on ns ps before p = record {
  faults = faults_of ps before p;
  unused = is_unused ns (bound same_name ps) (with_binding ps p);
  unresolved = is_unresolved (with_binding ps p);
  shadow = is_shadowing ps (with_binding ps p);
}
