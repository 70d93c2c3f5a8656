-- Two nodes, but for their fields.
use Rattle.std.specs.Prelude.{Bool, ◌&&◌, nat_eq}
use Rattle.tree_nodes.specs.Kinds.{kind_number}
use Rattle.tree_nodes.specs.Tree.{Tree}

-- they are of one kind, and stand at one place
abbrev pub same_heads : Tree → Tree → Bool
same_heads t u = nat_eq (kind_number t.kind) (kind_number u.kind) && nat_eq t.start u.start && nat_eq t.stop u.stop
