use Rattle.std.proofs.Common.{◌≡◌, drop}
use Rattle.tree_nodes.specs.Table as spec
use Rattle.tree_nodes.proofs.rows.row_among.Given as goal

-- no kind that the loop has passed has the name
abbrev pub invariant-loop-kind : goal.invariant-loop-kind
invariant-loop-kind l = spec.row_among l.kinds l.name ≡ spec.row_among (drop l.kind-index l.kinds) l.name
