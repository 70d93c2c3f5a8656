-- Which bindings keep their names, whatever else is renamed.
use Rattle.std.specs.Prelude.{ℕ, Bool, true, false, not, ◌&&◌, ◌||◌, nat_eq, List, [], ◌∷◌, map, Option, Some, None, codes, filter, find}
use Rattle.std.specs.List.{list_any}
use Rattle.name_rules.specs.Options.{Options}
use Rattle.tree_nodes.specs.Tree.{Text}
use Rattle.tree_nodes.specs.declared.table.Declared.TheVariants.{Class, ClassName, Function, FunctionName}
use Rattle.tree_nodes.specs.declared.table.Role.{Role}
use Rattle.tree_nodes.specs.declared.table.Role.TheVariants.{Declares}
use Rattle.tree_places.specs.Places.{Place, Value, anonymous_class, anonymous_function, no_value, other_value}
use Rattle.tree_places.specs.Scopes.{Scope, is_inside}
use Rattle.scope_rules.specs.Bindings.{Bound, is_binding, is_node, node, same_name}
use Rattle.scope_rules.specs.Evals.{holds_eval}
use Rattle.scope_rules.specs.Homes.{declares, home, refers}
use Rattle.scope_rules.specs.PrivateNames.{is_among}

-- the root is the last of its list
unfoldable pub is_root : Scope → Bool
is_root [] = true
is_root (n ∷ []) = true
is_root (n ∷ m ∷ outer) = false

-- q is a place of the binding b
unfoldable pub is_place_of : Bound Text → Bound Text → Bool
is_place_of b q = is_node q.binding (node b.place)

-- ---- root bindings stay where they may not be renamed, and those that are declared in an export: `export const x` exports the name x

unfoldable pub is_of_root : Options → Bound Text → Bool
is_of_root o b = is_root (home b.place.site) && not o.top_level

unfoldable pub is_exported : List (Bound Text) → Bound Text → Bool
is_exported bs b = is_root (home b.place.site) && list_any (λ q. declares q.place.site && q.place.site.setting.exported && is_place_of b q) bs

-- ---- what code can name while it runs: by a direct eval (see `holds_eval`), or by a property of a WithStatement's object

-- the scope is, or encloses, the nearest one around a WithStatement
unfoldable pub holds_with : List Scope → Scope → Bool
holds_with withs s = list_any (λ w. is_inside w s) withs

-- ---- reserved names, and `arguments`, which each function has of its own

abbrev pub name_arguments : Text
name_arguments = codes "arguments"

unfoldable pub is_reserved : Options → Text → Bool
is_reserved o x = same_name x name_arguments || is_among o.reserved x

-- ---- the names of functions and classes, where they are to be kept: a function has its own name, or that of the Identifier that gets it as value

unfoldable pub role_kept : Options → Role → Bool
role_kept o (Declares (Function special)) = o.keep_functions
role_kept o (Declares (FunctionName special)) = o.keep_functions
role_kept o (Declares Class) = o.keep_classes
role_kept o (Declares ClassName) = o.keep_classes
role_kept o _ = false

unfoldable pub value_kept : Options → Value → Bool
value_kept o no_value = false
value_kept o other_value = false
value_kept o anonymous_function = o.keep_functions
value_kept o anonymous_class = o.keep_classes

unfoldable pub has_value : Value → Bool
has_value no_value = false
has_value _ = true

-- both lie in the pattern of one declarator
unfoldable pub same_pattern : List ℕ → List ℕ → Bool
same_pattern [] ns = false
same_pattern (n ∷ _) [] = false
same_pattern (n ∷ _) (m ∷ _) = nat_eq n m

-- a place of b that the declarator of b gives a value: as its initial value or as a default, and not within a rest
unfoldable pub gets_value : Bound Text → Bound Text → Bool
gets_value b q =
    declares q.place.site && is_place_of b q && same_pattern q.place.site.setting.pattern b.place.site.setting.pattern
    && has_value q.place.site.setting.value && not q.place.site.setting.in_rest

-- the first such place decides
unfoldable pub is_declared_with : Options → List (Bound Text) → Bound Text → Bool
is_declared_with o bs b = elim (find (gets_value b) bs) [ None ↦ false | Some q ↦ value_kept o q.place.site.setting.value ]

-- a reference that is assigned a value
unfoldable pub is_assigned : Options → List (Bound Text) → Bound Text → Bool
is_assigned o bs b = list_any (λ q. refers q.place.site && is_place_of b q && value_kept o q.place.site.setting.value) bs

unfoldable pub name_kept : Options → List (Bound Text) → Bound Text → Bool
name_kept o bs b = role_kept o b.place.site.setting.role || is_declared_with o bs b || is_assigned o bs b

-- ---- kept

-- for a cause of its own. `withs` are the scopes around the WithStatements
unfoldable pub is_kept_alone : Options → (withs : List Scope) → List Place → List (Bound Text) → Bound Text → Bool
is_kept_alone o withs ps bs b =
    is_of_root o b || is_exported bs b || holds_eval ps (home b.place.site) || holds_with withs (home b.place.site)
    || is_reserved o b.place.name || name_kept o bs b

-- the bindings that are, by number
unfoldable pub kept_alone : Options → (withs : List Scope) → List Place → List (Bound Text) → List ℕ
kept_alone o withs ps bs = map (λ b. node b.place) (filter (is_kept_alone o withs ps bs) (filter is_binding bs))

unfoldable pub has_number : List ℕ → Option ℕ → Bool
has_number ns None = false
has_number ns (Some n) = list_any (nat_eq n) ns

-- the binding n, which has this shadower or none, is kept: alone, or as a shadowed function-name whose shadower is
unfoldable pub is_kept : List ℕ → ℕ → (shadower : Option ℕ) → Bool
is_kept kept n s = has_number kept (Some n) || has_number kept s
