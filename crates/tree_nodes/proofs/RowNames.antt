-- Of each kind: the row's own kind, and the row that is found by its name.
use Rattle.std.specs.Prelude.{Some}
use Rattle.std.proofs.Common.{◌≡◌, refl}
use Rattle.tree_nodes.specs.Table.{row, row_named}
use Rattle.tree_nodes.specs.declared.kind.Kind.{Kind}
use Rattle.tree_nodes.specs.declared.kind.Kind.TheVariants.{Program}

pub row_kind : (k : Kind) → (row k).kind ≡ k
row_kind Program = refl
row_kind _ = refl

pub row_named-name : (k : Kind) → row_named (row k).name ≡ Some (row k)
row_named-name Program = refl
row_named-name _ = refl
