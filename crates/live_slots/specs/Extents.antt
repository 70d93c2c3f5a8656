-- A group as far as its slot hangs on it: its home, and the scopes of its places.
use Rattle.std.specs.Prelude.{◌≡◌, ℕ, List, [], get_or, map, filter, Option}
use Rattle.name_rules.specs.Groups.{Group, Member, groups_of, members}
use Rattle.name_rules.specs.Options.{Options}
use Rattle.name_rules.specs.Slots.{slots}
use Rattle.place_list.specs.Tables.{list_at}
use Rattle.scope_rules.specs.Bindings.{is_node}
use Rattle.tree_nodes.specs.Tree.{Parts}
use Rattle.tree_places.specs.Scopes.{Scope}

pub record Extent : Type 0 where
  pub home : Scope
  pub places : List Scope

unfoldable pub extent_of : List Member → Group → Extent
extent_of ms g = record { home = g.home; places = map (λ m. m.place.site.setting.scope) (filter (λ m. is_node m.group g.leader) ms) }

-- an extent by the numbers of its scopes
pub record Numbered : Type 0 where
  pub home : ℕ
  pub places : List (Option ℕ)

unfoldable pub extent_at : List Scope → Numbered → Extent
extent_at ss g = record { home = get_or ss g.home []; places = map (list_at ss) g.places }

unfoldable pub extents : List Scope → List Numbered → List Extent
extents ss gs = map (extent_at ss) gs

-- these are the slots of all groups with these extents, in their order
abbrev pub AreSlotsOf : List Extent → List ℕ → Type 0
AreSlotsOf es ks = (ms : List Member) (gs : List Group) → map (extent_of ms) gs ≡ es → ks ≡ map (λ b. b.slot) (slots ms gs)

-- these are the extents of the groups of some tree, under some options
pub record AreOfTree (es : List Extent) : Type 0 where
  pub options : Options
  pub tree : Parts
  pub are : map (extent_of (members options tree)) (groups_of options tree) ≡ es
