-- What is told of symbols, of references and of scopes, as flags.
use Rattle.std.specs.Prelude.{ℕ, Bool, List, [], ◌∷◌, map, if◌then◌else◌}
use Rattle.tree_nodes.specs.declared.table.Declared.{Declared}
use Rattle.tree_nodes.specs.declared.table.Declared.TheVariants.{Catch, Class, ClassName, Const, Function, FunctionName, Import, Let, Param, Var}
use Rattle.tree_nodes.specs.declared.table.Role.{Role}
use Rattle.tree_nodes.specs.declared.table.Role.TheVariants.{Declares}
use Rattle.tree_places.specs.Places.{Place}
use Rattle.place_list.specs.declared.setting.ScopeKind.{ScopeKind}
use Rattle.place_list.specs.declared.setting.ScopeKind.TheVariants as kind
use Rattle.scope_rules.specs.Bindings.{same_name}
use Rattle.scope_rules.specs.References.{reads, writes}
use Rattle.scope_rules.specs.Symbols.{declaring_places}
use Rattle.syntax_sem.specs.Bits.{union_of}
use Rattle.syntax_sem.specs.ReferenceFlags as reference
use Rattle.syntax_sem.specs.ScopeFlags as scope
use Rattle.syntax_sem.specs.SymbolFlags as symbol
use Rattle.tree_symbols.specs.declared.known.KnownPlace.{KnownPlace}

-- the flag where it holds, and none else
unfoldable pub flag_if : Bool → ℕ → ℕ
flag_if holds flag = if holds then flag else 0

-- a function's, which may be async or a generator
unfoldable pub function_flags : (special : Bool) → ℕ
function_flags special = union_of (symbol.function ∷ flag_if special symbol.async_or_generator_function ∷ [])

-- how a place declares
unfoldable pub declared_flags : Declared → ℕ
declared_flags Var = symbol.function_scoped_variable
declared_flags Param = symbol.function_scoped_variable
declared_flags Let = symbol.block_scoped_variable
declared_flags Const = union_of (symbol.block_scoped_variable ∷ symbol.const_variable ∷ [])
declared_flags (Function special) = function_flags special
declared_flags (FunctionName special) = union_of (function_flags special ∷ symbol.function_expression ∷ [])
declared_flags Class = symbol.class
declared_flags ClassName = symbol.class
declared_flags Catch = symbol.catch_variable
declared_flags Import = symbol.import

unfoldable pub role_flags : Role → ℕ
role_flags (Declares d) = declared_flags d
role_flags _ = symbol.none

-- of each of these places what it declares
abbrev pub flags_of : List KnownPlace → List ℕ
flags_of ks = map (λ k. role_flags k.place.setting.role) ks

-- of the symbol k: what its declaring places have together
unfoldable pub symbol_flags : List Place → ℕ → ℕ
symbol_flags ps k = union_of (map (λ p. role_flags p.site.setting.role) (declaring_places same_name ps k))

-- what a reference does with its binding
unfoldable pub reference_flags : Role → ℕ
reference_flags r = union_of (flag_if (reads r) reference.read ∷ flag_if (writes r) reference.write ∷ [])

-- the construct that a scope belongs to
unfoldable pub kind_flags : ScopeKind → ℕ
kind_flags kind.TopLevel = scope.top
kind_flags kind.Function = scope.function
kind_flags kind.Constructor = union_of (scope.function ∷ scope.constructor ∷ [])
kind_flags kind.Getter = union_of (scope.function ∷ scope.get_accessor ∷ [])
kind_flags kind.Setter = union_of (scope.function ∷ scope.set_accessor ∷ [])
kind_flags kind.Arrow = union_of (scope.function ∷ scope.arrow ∷ [])
kind_flags kind.ClassStatic = scope.class_static_block
kind_flags kind.Catch = scope.catch_clause
kind_flags kind.With = scope.with_statement
kind_flags kind.Block = 0

-- of a scope of this kind, by whether its code is strict and whether it holds a direct eval
unfoldable pub scope_flags : ScopeKind → (strict holds_eval : Bool) → ℕ
scope_flags k strict holds_eval = union_of (kind_flags k ∷ flag_if strict scope.strict_mode ∷ flag_if holds_eval scope.direct_eval ∷ [])
