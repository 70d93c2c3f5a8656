-- When function-names stand apart: where each function expression has one Identifier as its name, or none.
use Rattle.std.specs.Prelude.{Bool, true, false, not, ◌&&◌, ◌||◌, IsTrue}
use Rattle.tree_nodes.specs.Tree.{Parts, atom, child, done, many}
use Rattle.tree_nodes.specs.declared.kind.Kind.{Kind}
use Rattle.tree_nodes.specs.declared.kind.Kind.TheVariants.{FunctionExpression, Identifier}
use Rattle.tree_places.specs.Places.{sites}
use Rattle.scope_rules.specs.Separation.{function_names_apart}

unfoldable pub is_function_expression : Kind → Bool
is_function_expression FunctionExpression = true
is_function_expression _ = false

unfoldable pub is_identifier_kind : Kind → Bool
is_identifier_kind Identifier = true
is_identifier_kind _ = false

-- the first field is an Identifier, or no node
unfoldable pub begins_with_name : Parts → Bool
begins_with_name done = true
begins_with_name (atom x more) = true
begins_with_name (many items more) = false
begins_with_name (child k s e fields more) = is_identifier_kind k

-- each function expression among these parts, at any depth, has one Identifier as its name, or none
unfoldable pub names_functions_once : Parts → Bool
names_functions_once done = true
names_functions_once (atom x more) = names_functions_once more
names_functions_once (many items more) = names_functions_once items && names_functions_once more
names_functions_once (child k s e fields more) = (not (is_function_expression k) || begins_with_name fields) && names_functions_once fields && names_functions_once more

-- then no two function-names have one home
abbrev pub FunctionNamesStandApart : Type 0
FunctionNamesStandApart = (t : Parts) → IsTrue (names_functions_once t) → IsTrue (function_names_apart (sites t))
