-- What a `NodeId` is to a contract.
use Rattle.std.specs.Prelude.{ℕ}
use Rattle.std.proofs.Common.{lit≤}
use Rattle.syntax_sem.specs.declared.node.node_id.NodeId.{NodeId}

-- the number that it stands for
abbrev pub number_of : NodeId → ℕ
number_of id = id.number

-- the id that stands for 0
abbrev pub zero : NodeId
zero = record { number = 0; below = lit≤ tt }
