-- Functions, their parameters and own names, and what code can name while it runs. Made by tools/worked_examples.py.
use Rattle.std.specs.Prelude.{[], ◌∷◌, codes}
use Rattle.tree_nodes.specs.Tree.{Parts}
use Rattle.worked_examples.specs.Makers.{arrow, arrow_with_body, assignment, block, call, declaration, declarator, default_at, function, function_expression, gives_back, ident, member, meta_property, module_of, null, number, object, optional_call, property, script, statement, string, this, with_object}

-- script: function f(a) { return a }
abbrev pub declared_function : Parts
declared_function =
    script (function (ident (codes "f")) (ident (codes "a") ∷ []) (gives_back (ident (codes "a")) ∷ []) ∷ [])

-- script: function f(e) { return e }
abbrev pub declared_function_mangled : Parts
declared_function_mangled =
    script (function (ident (codes "f")) (ident (codes "e") ∷ []) (gives_back (ident (codes "e")) ∷ []) ∷ [])

-- script: function e(e) { return e }
abbrev pub declared_function_all_mangled : Parts
declared_function_all_mangled =
    script (function (ident (codes "e")) (ident (codes "e") ∷ []) (gives_back (ident (codes "e")) ∷ []) ∷ [])

-- script: (function f(f) { return f })
abbrev pub shadowed_name : Parts
shadowed_name =
    script
    (statement (function_expression (ident (codes "f")) (ident (codes "f") ∷ []) (gives_back (ident (codes "f")) ∷ []))
    ∷ [])

-- script: (function e(e) { return e })
abbrev pub shadowed_name_mangled : Parts
shadowed_name_mangled =
    script
    (statement (function_expression (ident (codes "e")) (ident (codes "e") ∷ []) (gives_back (ident (codes "e")) ∷ []))
    ∷ [])

-- script: (function t(e) { return e })
abbrev pub shadowed_name_by_two_names : Parts
shadowed_name_by_two_names =
    script
    (statement (function_expression (ident (codes "t")) (ident (codes "e") ∷ []) (gives_back (ident (codes "e")) ∷ []))
    ∷ [])

-- script: (function f(e) { return e })
abbrev pub shadowed_name_kept : Parts
shadowed_name_kept =
    script
    (statement (function_expression (ident (codes "f")) (ident (codes "e") ∷ []) (gives_back (ident (codes "e")) ∷ []))
    ∷ [])

-- script: (function f() { let f = 1; return f })
abbrev pub shadowed_by_let : Parts
shadowed_by_let =
    script
    (statement (function_expression (ident (codes "f")) [] (declaration 1 (declarator (ident (codes "f")) (number 1 (codes "1")) ∷ []) ∷ gives_back (ident (codes "f")) ∷ []))
    ∷ [])

-- script: (function e() { let e = 1; return e })
abbrev pub shadowed_by_let_mangled : Parts
shadowed_by_let_mangled =
    script
    (statement (function_expression (ident (codes "e")) [] (declaration 1 (declarator (ident (codes "e")) (number 1 (codes "1")) ∷ []) ∷ gives_back (ident (codes "e")) ∷ []))
    ∷ [])

-- script: (function f(a) { return a })
abbrev pub unshadowed_name : Parts
unshadowed_name =
    script
    (statement (function_expression (ident (codes "f")) (ident (codes "a") ∷ []) (gives_back (ident (codes "a")) ∷ []))
    ∷ [])

-- script: (function e(t) { return t })
abbrev pub unshadowed_name_mangled : Parts
unshadowed_name_mangled =
    script
    (statement (function_expression (ident (codes "e")) (ident (codes "t") ∷ []) (gives_back (ident (codes "t")) ∷ []))
    ∷ [])

-- script: (function f(a) { return f(a) })
abbrev pub recursion : Parts
recursion =
    script
    (statement (function_expression (ident (codes "f")) (ident (codes "a") ∷ []) (gives_back (call (ident (codes "f")) (ident (codes "a") ∷ [])) ∷ []))
    ∷ [])

-- script: (function e(t) { return e(t) })
abbrev pub recursion_mangled : Parts
recursion_mangled =
    script
    (statement (function_expression (ident (codes "e")) (ident (codes "t") ∷ []) (gives_back (call (ident (codes "e")) (ident (codes "t") ∷ [])) ∷ []))
    ∷ [])

-- script: (function e(e) { return e(e) })
abbrev pub recursion_by_one_name : Parts
recursion_by_one_name =
    script
    (statement (function_expression (ident (codes "e")) (ident (codes "e") ∷ []) (gives_back (call (ident (codes "e")) (ident (codes "e") ∷ [])) ∷ []))
    ∷ [])

-- module: function f0(a) { return f0(a) }
abbrev pub recursive_declaration : Parts
recursive_declaration =
    module_of
    (function (ident (codes "f0")) (ident (codes "a") ∷ []) (gives_back (call (ident (codes "f0")) (ident (codes "a") ∷ [])) ∷ [])
    ∷ [])

-- module: function e(t) { return e(t) }
abbrev pub recursive_declaration_mangled : Parts
recursive_declaration_mangled =
    module_of
    (function (ident (codes "e")) (ident (codes "t") ∷ []) (gives_back (call (ident (codes "e")) (ident (codes "t") ∷ [])) ∷ [])
    ∷ [])

-- module: let f = (a) => a; f((b) => { return f(b) })
abbrev pub arrows : Parts
arrows =
    module_of
    (declaration 1 (declarator (ident (codes "f")) (arrow (ident (codes "a") ∷ []) (ident (codes "a"))) ∷ [])
    ∷ statement (call (ident (codes "f")) (arrow_with_body (ident (codes "b") ∷ []) (gives_back (call (ident (codes "f")) (ident (codes "b") ∷ [])) ∷ []) ∷ []))
    ∷ [])

-- module: let e = (e) => e; e((t) => { return e(t) })
abbrev pub arrows_mangled : Parts
arrows_mangled =
    module_of
    (declaration 1 (declarator (ident (codes "e")) (arrow (ident (codes "e") ∷ []) (ident (codes "e"))) ∷ [])
    ∷ statement (call (ident (codes "e")) (arrow_with_body (ident (codes "t") ∷ []) (gives_back (call (ident (codes "e")) (ident (codes "t") ∷ [])) ∷ []) ∷ []))
    ∷ [])

-- script: (function f(a = f) {})
abbrev pub default_of_function : Parts
default_of_function =
    script
    (statement (function_expression (ident (codes "f")) (default_at (ident (codes "a")) (ident (codes "f")) ∷ []) [])
    ∷ [])

-- script: (function e(t = e) {})
abbrev pub default_of_function_mangled : Parts
default_of_function_mangled =
    script
    (statement (function_expression (ident (codes "e")) (default_at (ident (codes "t")) (ident (codes "e")) ∷ []) [])
    ∷ [])

-- script: (function e(e = e) {})
abbrev pub default_of_function_by_one_name : Parts
default_of_function_by_one_name =
    script
    (statement (function_expression (ident (codes "e")) (default_at (ident (codes "e")) (ident (codes "e")) ∷ []) [])
    ∷ [])

-- script: function f(a) { eval("a"); function g(b) { return b } }
abbrev pub direct_eval : Parts
direct_eval =
    script
    (function (ident (codes "f")) (ident (codes "a") ∷ []) (statement (call (ident (codes "eval")) (string (codes "a") (codes "\"a\"") ∷ [])) ∷ function (ident (codes "g")) (ident (codes "b") ∷ []) (gives_back (ident (codes "b")) ∷ []) ∷ [])
    ∷ [])

-- script: function f(a) { eval("a"); function g(e) { return e } }
abbrev pub direct_eval_mangled : Parts
direct_eval_mangled =
    script
    (function (ident (codes "f")) (ident (codes "a") ∷ []) (statement (call (ident (codes "eval")) (string (codes "a") (codes "\"a\"") ∷ [])) ∷ function (ident (codes "g")) (ident (codes "e") ∷ []) (gives_back (ident (codes "e")) ∷ []) ∷ [])
    ∷ [])

-- script: function f(t) { eval("a"); function g(e) { return e } }
abbrev pub direct_eval_renamed : Parts
direct_eval_renamed =
    script
    (function (ident (codes "f")) (ident (codes "t") ∷ []) (statement (call (ident (codes "eval")) (string (codes "a") (codes "\"a\"") ∷ [])) ∷ function (ident (codes "g")) (ident (codes "e") ∷ []) (gives_back (ident (codes "e")) ∷ []) ∷ [])
    ∷ [])

-- script: function f(a) { eval("a"); function g(a) { return a } }
abbrev pub direct_eval_by_kept_name : Parts
direct_eval_by_kept_name =
    script
    (function (ident (codes "f")) (ident (codes "a") ∷ []) (statement (call (ident (codes "eval")) (string (codes "a") (codes "\"a\"") ∷ [])) ∷ function (ident (codes "g")) (ident (codes "a") ∷ []) (gives_back (ident (codes "a")) ∷ []) ∷ [])
    ∷ [])

-- module: let f = eval; let x = 1; f("x")
abbrev pub indirect_eval : Parts
indirect_eval =
    module_of
    (declaration 1 (declarator (ident (codes "f")) (ident (codes "eval")) ∷ [])
    ∷ declaration 1 (declarator (ident (codes "x")) (number 1 (codes "1")) ∷ [])
    ∷ statement (call (ident (codes "f")) (string (codes "x") (codes "\"x\"") ∷ []))
    ∷ [])

-- module: let e = eval; let t = 1; e("x")
abbrev pub indirect_eval_mangled : Parts
indirect_eval_mangled =
    module_of
    (declaration 1 (declarator (ident (codes "e")) (ident (codes "eval")) ∷ [])
    ∷ declaration 1 (declarator (ident (codes "t")) (number 1 (codes "1")) ∷ [])
    ∷ statement (call (ident (codes "e")) (string (codes "x") (codes "\"x\"") ∷ []))
    ∷ [])

-- script: function f(a) { return eval?.("a") }
abbrev pub optional_eval : Parts
optional_eval =
    script
    (function (ident (codes "f")) (ident (codes "a") ∷ []) (gives_back (optional_call (ident (codes "eval")) (string (codes "a") (codes "\"a\"") ∷ [])) ∷ [])
    ∷ [])

-- script: function f(e) { return eval?.("a") }
abbrev pub optional_eval_mangled : Parts
optional_eval_mangled =
    script
    (function (ident (codes "f")) (ident (codes "e") ∷ []) (gives_back (optional_call (ident (codes "eval")) (string (codes "a") (codes "\"a\"") ∷ [])) ∷ [])
    ∷ [])

-- script: function f(o, a) { with (o) { a; let b = 1; b } }
abbrev pub with_statement : Parts
with_statement =
    script
    (function (ident (codes "f")) (ident (codes "o") ∷ ident (codes "a") ∷ []) (with_object (ident (codes "o")) (block (statement (ident (codes "a")) ∷ declaration 1 (declarator (ident (codes "b")) (number 1 (codes "1")) ∷ []) ∷ statement (ident (codes "b")) ∷ [])) ∷ [])
    ∷ [])

-- script: function f(o, a) { with (o) { a; let e = 1; e } }
abbrev pub with_statement_mangled : Parts
with_statement_mangled =
    script
    (function (ident (codes "f")) (ident (codes "o") ∷ ident (codes "a") ∷ []) (with_object (ident (codes "o")) (block (statement (ident (codes "a")) ∷ declaration 1 (declarator (ident (codes "e")) (number 1 (codes "1")) ∷ []) ∷ statement (ident (codes "e")) ∷ [])) ∷ [])
    ∷ [])

-- script: function f(o, t) { with (o) { t; let e = 1; e } }
abbrev pub with_statement_renamed : Parts
with_statement_renamed =
    script
    (function (ident (codes "f")) (ident (codes "o") ∷ ident (codes "t") ∷ []) (with_object (ident (codes "o")) (block (statement (ident (codes "t")) ∷ declaration 1 (declarator (ident (codes "e")) (number 1 (codes "1")) ∷ []) ∷ statement (ident (codes "e")) ∷ [])) ∷ [])
    ∷ [])

-- script: function f(arguments, a) { return arguments }
abbrev pub arguments_declared : Parts
arguments_declared =
    script
    (function (ident (codes "f")) (ident (codes "arguments") ∷ ident (codes "a") ∷ []) (gives_back (ident (codes "arguments")) ∷ [])
    ∷ [])

-- script: function f(arguments, e) { return arguments }
abbrev pub arguments_declared_mangled : Parts
arguments_declared_mangled =
    script
    (function (ident (codes "f")) (ident (codes "arguments") ∷ ident (codes "e") ∷ []) (gives_back (ident (codes "arguments")) ∷ [])
    ∷ [])

-- script: function f(t, e) { return t }
abbrev pub arguments_renamed : Parts
arguments_renamed =
    script
    (function (ident (codes "f")) (ident (codes "t") ∷ ident (codes "e") ∷ []) (gives_back (ident (codes "t")) ∷ [])
    ∷ [])

-- module: function f(target) { return new.target }
abbrev pub new_target : Parts
new_target =
    module_of
    (function (ident (codes "f")) (ident (codes "target") ∷ []) (gives_back (meta_property (ident (codes "new")) (ident (codes "target"))) ∷ [])
    ∷ [])

-- module: function e(e) { return new.target }
abbrev pub new_target_mangled : Parts
new_target_mangled =
    module_of
    (function (ident (codes "e")) (ident (codes "e") ∷ []) (gives_back (meta_property (ident (codes "new")) (ident (codes "target"))) ∷ [])
    ∷ [])

-- module: function e(e) { return new.e }
abbrev pub new_target_renamed : Parts
new_target_renamed =
    module_of
    (function (ident (codes "e")) (ident (codes "e") ∷ []) (gives_back (meta_property (ident (codes "new")) (ident (codes "e"))) ∷ [])
    ∷ [])

-- module: function f(a, b = function (c) { return a }) {}
abbrev pub function_in_default : Parts
function_in_default =
    module_of
    (function (ident (codes "f")) (ident (codes "a") ∷ default_at (ident (codes "b")) (function_expression null (ident (codes "c") ∷ []) (gives_back (ident (codes "a")) ∷ [])) ∷ []) []
    ∷ [])

-- module: function e(e, t = function (t) { return e }) {}
abbrev pub function_in_default_mangled : Parts
function_in_default_mangled =
    module_of
    (function (ident (codes "e")) (ident (codes "e") ∷ default_at (ident (codes "t")) (function_expression null (ident (codes "t") ∷ []) (gives_back (ident (codes "e")) ∷ [])) ∷ []) []
    ∷ [])

-- module: function e(e, t = function (e) { return e }) {}
abbrev pub function_in_default_captured : Parts
function_in_default_captured =
    module_of
    (function (ident (codes "e")) (ident (codes "e") ∷ default_at (ident (codes "t")) (function_expression null (ident (codes "e") ∷ []) (gives_back (ident (codes "e")) ∷ [])) ∷ []) []
    ∷ [])

-- script: (function (root, factory) { root.lib = factory() })(this, function () { var count = 0; function next(step) { count += step; return count } return { next: next } })
abbrev pub umd_wrapper : Parts
umd_wrapper =
    script
    (statement (call (function_expression null (ident (codes "root") ∷ ident (codes "factory") ∷ []) (statement (assignment 0 (member (ident (codes "root")) (ident (codes "lib"))) (call (ident (codes "factory")) [])) ∷ [])) (this ∷ function_expression null [] (declaration 0 (declarator (ident (codes "count")) (number 0 (codes "0")) ∷ []) ∷ function (ident (codes "next")) (ident (codes "step") ∷ []) (statement (assignment 1 (ident (codes "count")) (ident (codes "step"))) ∷ gives_back (ident (codes "count")) ∷ []) ∷ gives_back (object (property (ident (codes "next")) (ident (codes "next")) ∷ [])) ∷ []) ∷ []))
    ∷ [])

-- script: (function (e, t) { e.lib = t() })(this, function () { var e = 0; function t(t) { e += t; return e } return { next: t } })
abbrev pub umd_wrapper_mangled : Parts
umd_wrapper_mangled =
    script
    (statement (call (function_expression null (ident (codes "e") ∷ ident (codes "t") ∷ []) (statement (assignment 0 (member (ident (codes "e")) (ident (codes "lib"))) (call (ident (codes "t")) [])) ∷ [])) (this ∷ function_expression null [] (declaration 0 (declarator (ident (codes "e")) (number 0 (codes "0")) ∷ []) ∷ function (ident (codes "t")) (ident (codes "t") ∷ []) (statement (assignment 1 (ident (codes "e")) (ident (codes "t"))) ∷ gives_back (ident (codes "e")) ∷ []) ∷ gives_back (object (property (ident (codes "next")) (ident (codes "t")) ∷ [])) ∷ []) ∷ []))
    ∷ [])

-- script: (function (e, t) { e.lib = t() })(this, function () { var e = 0; function t(e) { e += e; return e } return { next: t } })
abbrev pub umd_wrapper_captured : Parts
umd_wrapper_captured =
    script
    (statement (call (function_expression null (ident (codes "e") ∷ ident (codes "t") ∷ []) (statement (assignment 0 (member (ident (codes "e")) (ident (codes "lib"))) (call (ident (codes "t")) [])) ∷ [])) (this ∷ function_expression null [] (declaration 0 (declarator (ident (codes "e")) (number 0 (codes "0")) ∷ []) ∷ function (ident (codes "t")) (ident (codes "e") ∷ []) (statement (assignment 1 (ident (codes "e")) (ident (codes "e"))) ∷ gives_back (ident (codes "e")) ∷ []) ∷ gives_back (object (property (ident (codes "next")) (ident (codes "t")) ∷ [])) ∷ []) ∷ []))
    ∷ [])
