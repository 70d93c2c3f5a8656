use Rattle.std.proofs.Common.{◌≡◌, drop}
use Rattle.tree_nodes.specs.Kinds.{is_in}
use Rattle.tree_nodes.proofs.kind.Kind.is_among.Given as goal

-- the kind is none of those that the loop has passed
abbrev pub invariant-loop-kind : goal.invariant-loop-kind
invariant-loop-kind l = is_in l.self l.kinds ≡ is_in l.self (drop l.kind-index l.kinds)
