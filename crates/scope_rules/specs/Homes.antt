-- What a site does to names, and the scope in which it declares (ECMA-262, VarDeclaredNames, LexicallyDeclaredNames, FunctionDeclarationInstantiation).
use Rattle.std.specs.Prelude.{Bool, true, false, not, ◌&&◌, if◌then◌else◌}
use Rattle.tree_nodes.specs.declared.table.Declared.TheVariants.{Function, FunctionName, Param, Var}
use Rattle.tree_nodes.specs.declared.table.Role.{Role}
use Rattle.tree_nodes.specs.declared.table.Role.TheVariants.{Called, Declares, Read, ReadWrite, Write}
use Rattle.tree_places.specs.Places.{Site}
use Rattle.tree_places.specs.Scopes.{Scope, same_scope}

unfoldable pub is_declaring : Role → Bool
is_declaring (Declares d) = true
is_declaring _ = false

unfoldable pub is_reference : Role → Bool
is_reference Read = true
is_reference Write = true
is_reference ReadWrite = true
is_reference Called = true
is_reference _ = false

-- the name of a function expression, which is declared in the function's own scope
unfoldable pub is_function_name : Role → Bool
is_function_name (Declares (FunctionName special)) = true
is_function_name _ = false

unfoldable pub is_var : Role → Bool
is_var (Declares Var) = true
is_var _ = false

-- ---- of sites: a variable place declares or refers, a private one does neither

unfoldable pub declares : Site → Bool
declares s = not s.private && is_declaring s.setting.role

unfoldable pub refers : Site → Bool
refers s = not s.private && is_reference s.setting.role

unfoldable pub names_function : Site → Bool
names_function s = declares s && is_function_name s.setting.role

-- it declares, and is no function-name
unfoldable pub declares_plainly : Site → Bool
declares_plainly s = declares s && not (is_function_name s.setting.role)

-- the home: of a `var` the nearest var scope, else the scope
unfoldable pub home : Site → Scope
home s = if is_var s.setting.role then s.setting.var_scope else s.setting.scope

unfoldable pub lies_in_var_scope : Site → Bool
lies_in_var_scope s = same_scope s.setting.scope s.setting.var_scope

unfoldable pub joins : Role → Bool → Bool
joins (Declares Var) in_var_scope = true
joins (Declares Param) in_var_scope = true
joins (Declares (Function special)) in_var_scope = in_var_scope
joins _ in_var_scope = false

-- a `var`, a parameter, and a function whose scope is a var scope: they may declare one name in one home
unfoldable pub is_joinable : Site → Bool
is_joinable s = joins s.setting.role (lies_in_var_scope s)

-- it declares, and is neither joinable nor a function-name
unfoldable pub is_single : Site → Bool
is_single s = declares_plainly s && not (is_joinable s)
