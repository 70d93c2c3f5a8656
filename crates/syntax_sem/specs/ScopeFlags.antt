-- What opens a scope, and what is known of the code in it, as flags.
use Rattle.std.specs.Prelude.{ℕ, List, [], ◌∷◌, codes}
use Rattle.syntax_sem.specs.Bits.{bit, union_of}
use Rattle.syntax_sem.specs.declared.scope.ScopeFlags.{ScopeFlags}

abbrev pub bits_of : ScopeFlags → ℕ
bits_of flags = flags.0

abbrev pub strict_mode : ℕ
strict_mode = bit 0

abbrev pub top : ℕ
top = bit 1

abbrev pub function : ℕ
function = bit 2

abbrev pub arrow : ℕ
arrow = bit 3

abbrev pub class_static_block : ℕ
class_static_block = bit 4

abbrev pub ts_module_block : ℕ
ts_module_block = bit 5

abbrev pub constructor : ℕ
constructor = bit 6

abbrev pub get_accessor : ℕ
get_accessor = bit 7

abbrev pub set_accessor : ℕ
set_accessor = bit 8

abbrev pub catch_clause : ℕ
catch_clause = bit 9

abbrev pub direct_eval : ℕ
direct_eval = bit 10

abbrev pub ts_conditional : ℕ
ts_conditional = bit 11

abbrev pub with_statement : ℕ
with_statement = bit 12

-- the scopes in which a `var` declares
abbrev pub var : ℕ
var = union_of (top ∷ function ∷ class_static_block ∷ ts_module_block ∷ [])

abbrev pub set_or_get_accessor : ℕ
set_or_get_accessor = union_of (set_accessor ∷ get_accessor ∷ [])

abbrev pub named : List (List ℕ × ℕ)
named =
    (codes "STRICT_MODE", strict_mode) ∷ (codes "TOP", top) ∷ (codes "FUNCTION", function) ∷ (codes "ARROW", arrow)
    ∷ (codes "CLASS_STATIC_BLOCK", class_static_block) ∷ (codes "TS_MODULE_BLOCK", ts_module_block)
    ∷ (codes "CONSTRUCTOR", constructor) ∷ (codes "GET_ACCESSOR", get_accessor) ∷ (codes "SET_ACCESSOR", set_accessor)
    ∷ (codes "CATCH_CLAUSE", catch_clause) ∷ (codes "DIRECT_EVAL", direct_eval)
    ∷ (codes "TS_CONDITIONAL", ts_conditional) ∷ (codes "WITH", with_statement) ∷ (codes "VAR", var) ∷ []
