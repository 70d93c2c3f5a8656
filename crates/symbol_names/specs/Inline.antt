-- Names that are kept in place.
use Rattle.std.specs.Prelude.{◌≤◌, length}
use Rattle.std.specs.Str.{IsAscii}
use Rattle.tree_nodes.specs.Tree.{Text}

-- ASCII, of at most 15 bytes
pub record IsInline (x : Text) : Type 0 where
  pub ascii : IsAscii x
  pub fits : length x ≤ 15
