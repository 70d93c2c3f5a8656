-- Which bindings share a name by force, where a name is in use, and how many are at once.
use Rattle.std.specs.Prelude.{ℕ, max, Bool, ◌&&◌, ◌||◌, nat_eq, List, [], ◌∷◌, map, length, Option, Some, None, filter, find, if◌then◌else◌}
use Rattle.std.specs.List.{list_any, flat_map}
use Rattle.name_rules.specs.Kept.{is_kept, kept_alone}
use Rattle.name_rules.specs.Options.{Options}
use Rattle.tree_nodes.specs.Tree.{Parts, Text}
use Rattle.tree_places.specs.Places.{Place, places, scopes, withs}
use Rattle.tree_places.specs.Scopes.{Scope, is_inside, same_scope}
use Rattle.scope_rules.specs.Bindings.{Bound, bound, is_binding, is_node, node, same_name, shadower}
use Rattle.scope_rules.specs.Homes.{declares, home}

-- a group is a binding that isn't kept, together with the function-name that it shadows, if it does. It stands as the number of that binding, its leader
unfoldable pub group_of : List ℕ → ℕ → (shadower : Option ℕ) → Option ℕ
group_of kept n s = if is_kept kept n s then None else elim s [ None ↦ Some n | Some leader ↦ Some leader ]

-- the group of the binding n
unfoldable pub group_at : List ℕ → List Place → List (Bound Text) → Option ℕ → Option ℕ
group_at kept ps bs None = None
group_at kept ps bs (Some n) = elim (find (λ b. is_binding b && nat_eq (node b.place) n) bs) [ None ↦ None | Some b ↦ group_of kept n (shadower same_name ps b.place) ]

-- a place with its binding and its group: none where it has no binding or a kept one
pub record Member : Type 0 where
  pub place : Place
  pub binding : Option ℕ
  pub group : Option ℕ

unfoldable pub members_of : Options → (withs : List Scope) → List Place → List Member
members_of o withs ps =
    let bs : List (Bound Text) = bound same_name ps in
    let kept : List ℕ = kept_alone o withs ps bs in
    map (λ b. record { place = b.place; binding = b.binding; group = group_at kept ps bs b.binding }) bs

-- the members of a tree, in printing order
unfoldable pub members : Options → Parts → List Member
members o t = members_of o (withs t) (places t)

pub record Group : Type 0 where
  pub leader : ℕ
  pub home : Scope

unfoldable pub leads : Member → Bool
leads m = declares m.place.site && is_node m.binding (node m.place) && is_node m.group (node m.place)

unfoldable pub group_led_by : Member → Group
group_led_by m = record { leader = node m.place; home = home m.place.site }

-- the groups, by their home in printing order, then by their leader
unfoldable pub groups : List Scope → List Member → List Group
groups ss ms =
    let leaders : List Member = filter leads ms in
    flat_map (λ s. map group_led_by (filter (λ m. same_scope (home m.place.site) s) leaders)) ss

unfoldable pub groups_of : Options → Parts → List Group
groups_of o t = groups (scopes t) (members o t)

-- a place of the group has its scope at or inside s
unfoldable pub reaches : Group → Scope → Member → Bool
reaches g s m = is_node m.group g.leader && is_inside m.place.site.setting.scope s

-- a group is live in its home, and in each scope inside it that a place of it reaches
unfoldable pub is_live : List Member → Scope → Group → Bool
is_live ms s g = same_scope s g.home || is_inside s g.home && list_any (reaches g s) ms

-- how many groups are live in a scope
unfoldable pub width : List Member → List Group → Scope → ℕ
width ms gs s = length (filter (is_live ms s) gs)

unfoldable pub greatest : List ℕ → ℕ
greatest [] = 0
greatest (n ∷ ns) = max n (greatest ns)

-- the greatest width of a tree: 0 without a group
unfoldable pub greatest_width : Options → Parts → ℕ
greatest_width o t = greatest (map (width (members o t) (groups_of o t)) (scopes t))
