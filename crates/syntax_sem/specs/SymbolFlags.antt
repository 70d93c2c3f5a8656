-- What declares a symbol, as flags.
use Rattle.std.specs.Prelude.{ℕ, List, [], ◌∷◌, codes}
use Rattle.syntax_sem.specs.Bits.{bit, union_of}
use Rattle.syntax_sem.specs.declared.symbol.SymbolFlags.{SymbolFlags}

abbrev pub bits_of : SymbolFlags → ℕ
bits_of flags = flags.0

abbrev pub none : ℕ
none = 0

abbrev pub function_scoped_variable : ℕ
function_scoped_variable = bit 0

abbrev pub block_scoped_variable : ℕ
block_scoped_variable = bit 1

abbrev pub const_variable : ℕ
const_variable = bit 2

abbrev pub class : ℕ
class = bit 3

abbrev pub catch_variable : ℕ
catch_variable = bit 4

abbrev pub function : ℕ
function = bit 5

abbrev pub import : ℕ
import = bit 6

abbrev pub type_import : ℕ
type_import = bit 7

abbrev pub type_alias : ℕ
type_alias = bit 8

abbrev pub interface : ℕ
interface = bit 9

abbrev pub regular_enum : ℕ
regular_enum = bit 10

abbrev pub const_enum : ℕ
const_enum = bit 11

abbrev pub enum_member : ℕ
enum_member = bit 12

abbrev pub type_parameter : ℕ
type_parameter = bit 13

abbrev pub namespace_module : ℕ
namespace_module = bit 14

abbrev pub value_module : ℕ
value_module = bit 15

abbrev pub ambient : ℕ
ambient = bit 16

abbrev pub function_expression : ℕ
function_expression = bit 17

abbrev pub async_or_generator_function : ℕ
async_or_generator_function = bit 18

-- ---- and unions of them

abbrev pub enum : ℕ
enum = union_of (regular_enum ∷ const_enum ∷ [])

abbrev pub variable : ℕ
variable = union_of (function_scoped_variable ∷ block_scoped_variable ∷ [])

abbrev pub block_scoped : ℕ
block_scoped = union_of (block_scoped_variable ∷ enum ∷ class ∷ [])

-- what is there when the program runs
abbrev pub value : ℕ
value = union_of (variable ∷ class ∷ function ∷ enum ∷ enum_member ∷ value_module ∷ [])

abbrev pub type : ℕ
type = union_of (class ∷ interface ∷ enum ∷ enum_member ∷ type_parameter ∷ type_alias ∷ [])

abbrev pub namespace : ℕ
namespace = union_of (value_module ∷ namespace_module ∷ enum ∷ [])

-- what is a type and not a value: an imported type, and the types that are no values, so no class and no enum
abbrev pub type_alone : ℕ
type_alone = union_of (type_import ∷ interface ∷ type_parameter ∷ type_alias ∷ [])

abbrev pub value_or_import : ℕ
value_or_import = union_of (value ∷ import ∷ [])

abbrev pub any_import : ℕ
any_import = union_of (import ∷ type_import ∷ [])

-- what a type may name, what may stand in `typeof` as a type, and what may stand before the point of a qualified name
abbrev pub named_by_type : ℕ
named_by_type = union_of (type ∷ type_import ∷ import ∷ namespace ∷ [])

abbrev pub named_by_value_as_type : ℕ
named_by_value_as_type = union_of (value ∷ import ∷ function ∷ type_import ∷ [])

abbrev pub named_as_namespace : ℕ
named_as_namespace = union_of (namespace ∷ import ∷ type_import ∷ [])

abbrev pub named : List (List ℕ × ℕ)
named =
    (codes "NONE", none) ∷ (codes "FUNCTION_SCOPED_VARIABLE", function_scoped_variable)
    ∷ (codes "BLOCK_SCOPED_VARIABLE", block_scoped_variable) ∷ (codes "CONST_VARIABLE", const_variable)
    ∷ (codes "CLASS", class) ∷ (codes "CATCH_VARIABLE", catch_variable) ∷ (codes "FUNCTION", function)
    ∷ (codes "IMPORT", import) ∷ (codes "TYPE_IMPORT", type_import) ∷ (codes "TYPE_ALIAS", type_alias)
    ∷ (codes "INTERFACE", interface) ∷ (codes "REGULAR_ENUM", regular_enum) ∷ (codes "CONST_ENUM", const_enum)
    ∷ (codes "ENUM_MEMBER", enum_member) ∷ (codes "TYPE_PARAMETER", type_parameter)
    ∷ (codes "NAMESPACE_MODULE", namespace_module) ∷ (codes "VALUE_MODULE", value_module) ∷ (codes "AMBIENT", ambient)
    ∷ (codes "FUNCTION_EXPRESSION", function_expression)
    ∷ (codes "ASYNC_OR_GENERATOR_FUNCTION", async_or_generator_function) ∷ (codes "ENUM", enum)
    ∷ (codes "VARIABLE", variable) ∷ (codes "BLOCK_SCOPED", block_scoped) ∷ (codes "VALUE", value)
    ∷ (codes "TYPE", type) ∷ (codes "NAMESPACE", namespace) ∷ []
