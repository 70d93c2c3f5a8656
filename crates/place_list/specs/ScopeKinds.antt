-- What kind of scope a node opens: in which construct of the language it lies.
use Rattle.std.specs.Prelude.{ℕ, nat_eq, List, bytes_eq, codes, if◌then◌else◌}
use Rattle.place_list.specs.declared.setting.ScopeKind.{ScopeKind}
use Rattle.place_list.specs.declared.setting.ScopeKind.TheVariants as scope
use Rattle.tree_nodes.specs.Table.{Column}
use Rattle.tree_nodes.specs.Tree.{Parts, part, word_of}
use Rattle.tree_nodes.specs.declared.kind.Kind.{Kind}
use Rattle.tree_nodes.specs.declared.kind.Kind.TheVariants.{ArrowFunctionExpression, CatchClause, FunctionDeclaration, FunctionExpression, MethodDefinition, Program, Property, StaticBlock, WithStatement}

-- by the number of a MethodDefinition's word: constructor, method, get, set
unfoldable pub method_scope : ℕ → ScopeKind
method_scope word = if nat_eq word 0 then scope.Constructor else if nat_eq word 2 then scope.Getter else if nat_eq word 3 then scope.Setter else scope.Function

-- by the number of a Property's word: init, get, set
unfoldable pub property_scope : ℕ → ScopeKind
property_scope word = if nat_eq word 1 then scope.Getter else if nat_eq word 2 then scope.Setter else scope.Function

-- of a function that is the value of a node of this kind with these fields
unfoldable pub value_scope : Kind → Parts → ScopeKind
value_scope MethodDefinition fields = method_scope (word_of (part fields 2))
value_scope Property fields = property_scope (word_of (part fields 0))
value_scope _ fields = scope.Function

abbrev pub key_value : List ℕ
key_value = codes "value"

-- of a function in this field of a node in which a value opens that scope
unfoldable pub function_scope : Column → ScopeKind → ScopeKind
function_scope c value = if bytes_eq c.key key_value then value else scope.Function

-- of a node of this kind in this field
unfoldable pub scope_kind : Kind → Column → ScopeKind → ScopeKind
scope_kind Program c value = scope.TopLevel
scope_kind FunctionDeclaration c value = scope.Function
scope_kind FunctionExpression c value = function_scope c value
scope_kind ArrowFunctionExpression c value = scope.Arrow
scope_kind StaticBlock c value = scope.ClassStatic
scope_kind CatchClause c value = scope.Catch
scope_kind WithStatement c value = scope.With
scope_kind _ c value = scope.Block
