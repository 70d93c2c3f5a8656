-- What a `ReferenceId` is to a contract.
use Rattle.std.specs.Prelude.{ℕ}
use Rattle.std.proofs.Common.{lit≤}
use Rattle.syntax_sem.specs.declared.reference.reference_id.ReferenceId.{ReferenceId}

-- the number that it stands for
abbrev pub number_of : ReferenceId → ℕ
number_of id = id.number

-- the id that stands for 0
abbrev pub zero : ReferenceId
zero = record { number = 0; below = lit≤ tt }
