-- What a `ScopeId` is to a contract.
use Rattle.std.specs.Prelude.{ℕ}
use Rattle.std.proofs.Common.{lit≤}
use Rattle.syntax_sem.specs.declared.scope.scope_id.ScopeId.{ScopeId}

-- the number that it stands for
abbrev pub number_of : ScopeId → ℕ
number_of id = id.number

-- the id that stands for 0
abbrev pub zero : ScopeId
zero = record { number = 0; below = lit≤ tt }
