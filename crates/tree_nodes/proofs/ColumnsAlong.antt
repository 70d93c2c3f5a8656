-- The columns beside a run: the one that `get` finds, the role that the first gives, and those past it.
use Rattle.std.proofs.Common.{◌≡◌, ℕ, zero, suc, List, [], ◌∷◌, drop, map, slice_get, Some, None, refl, ap}
use Rattle.tree_nodes.specs.Along.{Along, each, first_column, other_columns}
use Rattle.tree_nodes.specs.Roles.{role_at}
use Rattle.tree_nodes.specs.Rows.{column_of}
use Rattle.tree_nodes.specs.Table.{Column, unlisted}
use Rattle.tree_nodes.specs.Tree.{Parts}
use Rattle.tree_nodes.specs.declared.table.Column.{Column as RustColumn}
use Rattle.tree_nodes.specs.declared.table.Role.{Role}

pub found_column : (cs : List RustColumn) (i : ℕ) (c : RustColumn) → Some c ≡ slice_get cs i → column_of c ≡ first_column (each (drop i (map column_of cs)))
unfolding first_column
found_column [] i c e = absurd (cc)
found_column (d ∷ cs) zero c e = let same : c ≡ d = cc in ap column_of same
found_column (d ∷ cs) (suc i) c e = found_column cs i c e

pub no_column : (cs : List RustColumn) (i : ℕ) → None ≡ slice_get cs i → unlisted ≡ first_column (each (drop i (map column_of cs)))
unfolding first_column
no_column [] zero e = refl
no_column [] (suc i) e = refl
no_column (d ∷ cs) zero e = absurd (cc)
no_column (d ∷ cs) (suc i) e = no_column cs i e

pub other_drop : (cs : List Column) (i : ℕ) → other_columns (each (drop i cs)) ≡ each (drop (suc i) cs)
unfolding other_columns
other_drop [] zero = refl
other_drop [] (suc i) = refl
other_drop (c ∷ cs) zero = refl
other_drop (c ∷ cs) (suc i) = other_drop cs i

-- the role that the first column gives, in a node of this role with these fields
abbrev pub given : Along → Role → Parts → Role
given cs own within = role_at (first_column cs).mode own within
