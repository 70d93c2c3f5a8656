-- What a `Reference` is to a contract.
use Rattle.std.specs.Prelude.{Option, Some}
use Rattle.std.specs.Borrow.{Fml, Lends, MutBor}
use Rattle.syntax_sem.specs.contracts.reference.Reference.{the_row}
use Rattle.syntax_sem.specs.contracts.reference.ReferenceFlags.{the_row as flags_row}
use Rattle.syntax_sem.specs.declared.node.node_id.NodeId.{NodeId}
use Rattle.syntax_sem.specs.declared.reference.Reference.{Reference}
use Rattle.syntax_sem.specs.declared.reference.ReferenceFlags.{ReferenceFlags}
use Rattle.syntax_sem.specs.declared.scope.scope_id.ScopeId.{ScopeId}
use Rattle.syntax_sem.specs.declared.symbol.symbol_id.SymbolId.{SymbolId}

-- the reference at a node in a scope, to a symbol if that is known, with flags
abbrev pub reference_of : NodeId → Option SymbolId → ScopeId → ReferenceFlags → Reference
reference_of node symbol scope flags =
    record { node_id = node; symbol_id = symbol; scope_id = scope; flags = flags }

abbrev pub node_of : Reference → NodeId
node_of reference = reference.node_id

abbrev pub symbol_of : Reference → Option SymbolId
symbol_of reference = reference.symbol_id

abbrev pub scope_of : Reference → ScopeId
scope_of reference = reference.scope_id

abbrev pub flags_of : Reference → ReferenceFlags
flags_of reference = reference.flags

-- the same reference, to this symbol
abbrev pub to_symbol : Reference → SymbolId → Reference
to_symbol reference symbol = record reference { symbol_id = Some symbol }

-- the reference ends with the flags that are written last
abbrev pub LendsFlags : MutBor Reference → MutBor ReferenceFlags → Fml
LendsFlags reference flags =
    Lends the_row flags_row reference flags (λ last. record reference.now { flags = last })
