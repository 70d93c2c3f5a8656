-- Opens the definitions of this crate, and of those below it, for proofs that compute: `unfolding all_open`.
use Rattle.scope_rules.specs.Homes.{is_declaring, is_reference, is_function_name, is_var, declares, refers, names_function, declares_plainly, home, lies_in_var_scope, joins, is_joinable, is_single}
use Rattle.scope_rules.specs.Bindings.{same_name, node, node_of, is_node, or_else, at_home, declares_at, names_function_at, plain_binder, binder, binding, bindings, shadower, bound, is_binding}
use Rattle.scope_rules.specs.PrivateNames.{is_member_key, is_innermost, declares_private, declares_private_name, private_binder, private_binding, private_bindings, is_among, distinct_after, distinct, private_names, declaring_class}
use Rattle.scope_rules.specs.Evals.{is_called, is_eval, holds_eval, contains, is_open}
use Rattle.scope_rules.specs.Faults.{redeclares, has_redeclaration, is_redeclaration, is_single_at, crosses, has_crossing, is_plain_function, is_sloppy_function, has_sloppy_function, is_undeclared, has_undeclared, is_scope, binds_in, declares_in_head, is_of_body, reaches_body, has_reach, has_fault}
use Rattle.scope_rules.specs.Renamings.{under, all_under, is_bound_inside, is_live_in}
use Rattle.scope_rules.specs.FunctionNames.{is_function_expression, is_identifier_kind, begins_with_name, names_functions_once}
use Rattle.scope_rules.specs.Separation.{function_names_apart}
use Rattle.tree_places.specs.Open.{all_open as tree_places_open}

unfoldable pub all_open : Unit {0}
unfolding tree_places_open is_declaring is_reference is_function_name is_var declares refers names_function declares_plainly home lies_in_var_scope joins is_joinable is_single same_name node node_of is_node or_else at_home declares_at names_function_at plain_binder binder binding bindings shadower bound is_binding is_member_key is_innermost declares_private declares_private_name private_binder private_binding private_bindings is_among distinct_after distinct private_names declaring_class is_called is_eval holds_eval contains is_open redeclares has_redeclaration is_redeclaration is_single_at crosses has_crossing is_plain_function is_sloppy_function has_sloppy_function is_undeclared has_undeclared is_scope binds_in declares_in_head is_of_body reaches_body has_reach has_fault under all_under is_bound_inside is_live_in function_names_apart is_function_expression is_identifier_kind begins_with_name names_functions_once
all_open = tt
