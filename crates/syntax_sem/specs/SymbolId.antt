-- What a `SymbolId` is to a contract.
use Rattle.std.specs.Prelude.{ℕ}
use Rattle.std.proofs.Common.{lit≤}
use Rattle.syntax_sem.specs.declared.symbol.symbol_id.SymbolId.{SymbolId}

-- the number that it stands for
abbrev pub number_of : SymbolId → ℕ
number_of id = id.number

-- the id that stands for 0
abbrev pub zero : SymbolId
zero = record { number = 0; below = lit≤ tt }
