-- The map of a renaming.
use Rattle.std.specs.Prelude.{◌≡◌}
use Rattle.name_map.specs.Undoing.{Undoing, differing, taken_off}
use Rattle.tree_nodes.specs.Tree.{Tree, alone}
use Rattle.tree_places.specs.Places.{names}
use Rattle.tree_places.specs.Renaming.{IsRenamed, marks}

-- u is t renamed, and m has the names of t at exactly the places where t and u differ, and exactly the marks that are on in t and off in u
pub record IsMapOf (t u : Tree) (m : Undoing) : Type 0 where
  pub renamed : IsRenamed (alone t) (alone u)
  pub names : m.names ≡ differing 0 (names (alone t)) (names (alone u))
  pub marks : m.marks ≡ taken_off 0 (marks (alone t)) (marks (alone u))

-- back is the tree that was renamed, if m is the map of a renaming to u
abbrev pub IsGivenBack : Tree → Undoing → Tree → Type 0
IsGivenBack u m back = (t : Tree) → IsMapOf t u m → back ≡ t
