-- What a `RedeclarationId` is to a contract.
use Rattle.std.specs.Prelude.{ℕ}
use Rattle.syntax_sem.specs.declared.symbol.redeclaration_id.RedeclarationId.{RedeclarationId}

-- the number that it stands for
abbrev pub number_of : RedeclarationId → ℕ
number_of id = id.number
