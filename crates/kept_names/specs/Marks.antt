-- What the places of a binding say of it, by the number of the binding.
use Rattle.std.specs.Prelude.{◌≡◌, ℕ, Bool, not, ◌&&◌, List, [], ◌∷◌, Option, find, option_map}
use Rattle.std.specs.BTreeMap.{BTreeMap, get_by}
use Rattle.std.specs.BTreeSet.{BTreeSet}
use Rattle.std.specs.List.{list_any}
use Rattle.std.specs.Ordering.{nat_cmp, ordering_then}
use Rattle.scope_tables.specs.Sets.{has}
use Rattle.kept_names.specs.declared.values.InDeclarator.{InDeclarator}
use Rattle.name_rules.specs.Kept.{has_value, same_pattern, value_kept}
use Rattle.name_rules.specs.Options.{Options}
use Rattle.scope_rules.specs.Bindings.{Bound, is_node}
use Rattle.scope_rules.specs.Homes.{declares, refers}
use Rattle.tree_nodes.specs.Tree.{Text}

-- q declares the binding n in an export
unfoldable pub exports : ℕ → Bound Text → Bool
exports n q = declares q.place.site && q.place.site.setting.exported && is_node q.binding n

abbrev pub HasExported : List (Bound Text) → BTreeSet ℕ → Type 0
HasExported bs s = (n : ℕ) → has s n ≡ list_any (exports n) bs

-- q assigns to the binding n what takes its name from it
unfoldable pub assigns : Options → ℕ → Bound Text → Bool
assigns o n q = refers q.place.site && is_node q.binding n && value_kept o q.place.site.setting.value

abbrev pub HasAssigned : Options → List (Bound Text) → BTreeSet ℕ → Type 0
HasAssigned o bs s = (n : ℕ) → has s n ≡ list_any (assigns o n) bs

-- q declares, gets a value and lies in no rest
unfoldable pub may_get_value : Bound Text → Bool
may_get_value q = declares q.place.site && has_value q.place.site.setting.value && not q.place.site.setting.in_rest

-- q, in the pattern of the declarator d, is a place of the binding n that gets a value there
unfoldable pub gets_value_at : (d n : ℕ) → Bound Text → Bool
gets_value_at d n q =
    declares q.place.site && is_node q.binding n && same_pattern q.place.site.setting.pattern (d ∷ [])
    && has_value q.place.site.setting.value && not q.place.site.setting.in_rest

-- what a map has at the binding n in the declarator d
abbrev pub at_declarator : BTreeMap InDeclarator Bool → ℕ → ℕ → Option Bool
at_declarator m d n = get_by (λ k. ordering_then (nat_cmp d k.declarator) (nat_cmp n k.binding)) m

-- it says of each binding in each declarator whether the first value there takes its name from the binding
abbrev pub HasFirstValues : Options → List (Bound Text) → BTreeMap InDeclarator Bool → Type 0
HasFirstValues o bs m = (d n : ℕ) → at_declarator m d n ≡ option_map (λ q. value_kept o q.place.site.setting.value) (find (gets_value_at d n) bs)
