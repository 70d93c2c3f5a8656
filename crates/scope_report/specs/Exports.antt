-- Which bindings an export exports by their declarations. Nodes stand by their numbers in printing order.
use Rattle.std.specs.Prelude.{ℕ, Bool, true, false, ◌&&◌, ◌||◌, List, Option, Some, None, option_and_then, option_map, slice_get}
use Rattle.std.specs.List.{list_any}
use Rattle.name_rules.specs.Kept.{is_root}
use Rattle.place_list.specs.Nodes.{NestedNode}
use Rattle.scope_rules.specs.Bindings.{Bound, is_node, node}
use Rattle.scope_rules.specs.Homes.{declares, home}
use Rattle.tree_nodes.specs.Tree.{Text}
use Rattle.tree_nodes.specs.declared.kind.Kind.{Kind}
use Rattle.tree_nodes.specs.declared.kind.Kind.TheVariants.{ExportDefaultDeclaration}
use Rattle.tree_nodes.specs.declared.table.Declared.TheVariants.{Class, Function}
use Rattle.tree_nodes.specs.declared.table.Role.{Role}
use Rattle.tree_nodes.specs.declared.table.Role.TheVariants.{Declares}
use Rattle.tree_places.specs.Places.{Site}

-- the `id` of the declaration of a function or a class
unfoldable pub names_declaration : Role → Bool
names_declaration (Declares (Function special)) = true
names_declaration (Declares Class) = true
names_declaration _ = false

unfoldable pub is_default_export : Kind → Bool
is_default_export ExportDefaultDeclaration = true
is_default_export _ = false

-- the number of the node around the n-th
unfoldable pub node_around : List NestedNode → ℕ → Option ℕ
node_around ns n = option_map (λ m. m.parent) (slice_get ns n)

unfoldable pub exports_by_default : List NestedNode → Option ℕ → Bool
exports_by_default ns None = false
exports_by_default ns (Some n) = elim (slice_get ns n) [ None ↦ false | Some m ↦ is_default_export m.tree.kind ]

-- the `id` of the declaration of an ExportDefaultDeclaration: the node around it is that declaration, and the one around that the export
unfoldable pub names_default : List NestedNode → Site → Bool
names_default ns s = names_declaration s.setting.role && exports_by_default ns (option_and_then (node_around ns) (node_around ns s.node))

-- q declares the binding n in the `declaration` of an ExportNamedDeclaration, or as such an `id`
unfoldable pub exports : List NestedNode → ℕ → Bound Text → Bool
exports ns n q = declares q.place.site && (q.place.site.setting.exported || names_default ns q.place.site) && is_node q.binding n

-- b is at home in the root, and one of its places declares it so
unfoldable pub is_exported : List NestedNode → List (Bound Text) → Bound Text → Bool
is_exported ns bs b = is_root (home b.place.site) && list_any (exports ns (node b.place)) bs
