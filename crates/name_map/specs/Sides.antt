-- What tells a renaming of one tree to another.
use Rattle.std.specs.Prelude.{◌≡◌, map}
use Rattle.name_map.specs.Fits.{plain_places}
use Rattle.name_map.specs.Spots as spec
use Rattle.name_map.specs.declared.make.Sides.{Sides}
use Rattle.tree_nodes.specs.Tree.{Tree, alone}
use Rattle.tree_places.specs.Places.{names}
use Rattle.tree_places.specs.Renaming as renaming

pub record AreSides (t u : Tree) (s : Sides) : Type 0 where
  pub plain : s.before.plain.items ≡ plain_places t
  pub before : map (λ x. x.now) s.before.names.items ≡ names (alone t)
  pub after : map (λ x. x.now) s.after.names.items ≡ names (alone u)
  pub marks : s.marks.items ≡ renaming.marks (alone t)
  pub pairs : s.pairs.items ≡ spec.pairs (alone u)
