-- Names that functions and classes take from their bindings. Made by tools/worked_examples.py.
use Rattle.std.specs.Prelude.{[], ◌∷◌, codes}
use Rattle.tree_nodes.specs.Tree.{Parts}
use Rattle.worked_examples.specs.Makers.{array, array_pattern, arrow, assignment, class, class_expression, declaration, declarator, default_at, function, function_expression, ident, module_of, null, number, rest, script, statement}

-- module: function foo() {}
abbrev pub named_function : Parts
named_function = module_of (function (ident (codes "foo")) [] [] ∷ [])

-- module: function e() {}
abbrev pub named_function_renamed : Parts
named_function_renamed = module_of (function (ident (codes "e")) [] [] ∷ [])

-- module: var foo; foo ||= function () {}
abbrev pub assigned_function : Parts
assigned_function =
    module_of
    (declaration 0 (declarator (ident (codes "foo")) null ∷ [])
    ∷ statement (assignment 13 (ident (codes "foo")) (function_expression null [] []))
    ∷ [])

-- module: var e; e ||= function () {}
abbrev pub assigned_function_renamed : Parts
assigned_function_renamed =
    module_of
    (declaration 0 (declarator (ident (codes "e")) null ∷ [])
    ∷ statement (assignment 13 (ident (codes "e")) (function_expression null [] []))
    ∷ [])

-- module: var foo = function bar() {}
abbrev pub named_expression : Parts
named_expression =
    module_of
    (declaration 0 (declarator (ident (codes "foo")) (function_expression (ident (codes "bar")) [] []) ∷ [])
    ∷ [])

-- module: var e = function bar() {}
abbrev pub named_expression_mangled : Parts
named_expression_mangled =
    module_of
    (declaration 0 (declarator (ident (codes "e")) (function_expression (ident (codes "bar")) [] []) ∷ [])
    ∷ [])

-- module: let foo = function () {}; let Bar = class {}
abbrev pub initial_values : Parts
initial_values =
    module_of
    (declaration 1 (declarator (ident (codes "foo")) (function_expression null [] []) ∷ [])
    ∷ declaration 1 (declarator (ident (codes "Bar")) (class_expression null null []) ∷ [])
    ∷ [])

-- module: let foo = function () {}; let e = class {}
abbrev pub initial_values_for_functions : Parts
initial_values_for_functions =
    module_of
    (declaration 1 (declarator (ident (codes "foo")) (function_expression null [] []) ∷ [])
    ∷ declaration 1 (declarator (ident (codes "e")) (class_expression null null []) ∷ [])
    ∷ [])

-- module: let e = function () {}; let Bar = class {}
abbrev pub initial_values_for_classes : Parts
initial_values_for_classes =
    module_of
    (declaration 1 (declarator (ident (codes "e")) (function_expression null [] []) ∷ [])
    ∷ declaration 1 (declarator (ident (codes "Bar")) (class_expression null null []) ∷ [])
    ∷ [])

-- module: let foo = () => 1
abbrev pub initial_arrow : Parts
initial_arrow = module_of (declaration 1 (declarator (ident (codes "foo")) (arrow [] (number 1 (codes "1"))) ∷ []) ∷ [])

-- module: let x = class Foo {}
abbrev pub named_class_expression : Parts
named_class_expression =
    module_of
    (declaration 1 (declarator (ident (codes "x")) (class_expression (ident (codes "Foo")) null []) ∷ [])
    ∷ [])

-- module: let e = class Foo {}
abbrev pub named_class_expression_mangled : Parts
named_class_expression_mangled =
    module_of
    (declaration 1 (declarator (ident (codes "e")) (class_expression (ident (codes "Foo")) null []) ∷ [])
    ∷ [])

-- module: function foo(a = function () {}) {}
abbrev pub parameter_default : Parts
parameter_default =
    module_of
    (function (ident (codes "foo")) (default_at (ident (codes "a")) (function_expression null [] []) ∷ []) []
    ∷ [])

-- module: function foo(e = function () {}) {}
abbrev pub parameter_default_mangled : Parts
parameter_default_mangled =
    module_of
    (function (ident (codes "foo")) (default_at (ident (codes "e")) (function_expression null [] []) ∷ []) []
    ∷ [])

-- module: var foo; [foo = function () {}] = []
abbrev pub target_default : Parts
target_default =
    module_of
    (declaration 0 (declarator (ident (codes "foo")) null ∷ [])
    ∷ statement (assignment 0 (array_pattern (default_at (ident (codes "foo")) (function_expression null [] []) ∷ [])) (array []))
    ∷ [])

-- module: var e; [e = function () {}] = []
abbrev pub target_default_renamed : Parts
target_default_renamed =
    module_of
    (declaration 0 (declarator (ident (codes "e")) null ∷ [])
    ∷ statement (assignment 0 (array_pattern (default_at (ident (codes "e")) (function_expression null [] []) ∷ [])) (array []))
    ∷ [])

-- module: var [Foo = class {}] = []
abbrev pub class_by_default : Parts
class_by_default =
    module_of
    (declaration 0 (declarator (array_pattern (default_at (ident (codes "Foo")) (class_expression null null []) ∷ [])) (array []) ∷ [])
    ∷ [])

-- module: var [e = class {}] = []
abbrev pub class_by_default_renamed : Parts
class_by_default_renamed =
    module_of
    (declaration 0 (declarator (array_pattern (default_at (ident (codes "e")) (class_expression null null []) ∷ [])) (array []) ∷ [])
    ∷ [])

-- module: var [...foo] = [function () {}]
abbrev pub function_in_rest : Parts
function_in_rest =
    module_of
    (declaration 0 (declarator (array_pattern (rest (ident (codes "foo")) ∷ [])) (array (function_expression null [] [] ∷ [])) ∷ [])
    ∷ [])

-- module: var [...e] = [function () {}]
abbrev pub function_in_rest_mangled : Parts
function_in_rest_mangled =
    module_of
    (declaration 0 (declarator (array_pattern (rest (ident (codes "e")) ∷ [])) (array (function_expression null [] [] ∷ [])) ∷ [])
    ∷ [])

-- module: var [...[a = function () {}]] = []
abbrev pub default_in_rest : Parts
default_in_rest =
    module_of
    (declaration 0 (declarator (array_pattern (rest (array_pattern (default_at (ident (codes "a")) (function_expression null [] []) ∷ [])) ∷ [])) (array []) ∷ [])
    ∷ [])

-- module: var [...[e = function () {}]] = []
abbrev pub default_in_rest_mangled : Parts
default_in_rest_mangled =
    module_of
    (declaration 0 (declarator (array_pattern (rest (array_pattern (default_at (ident (codes "e")) (function_expression null [] []) ∷ [])) ∷ [])) (array []) ∷ [])
    ∷ [])

-- module: var [a = 1, a = function () {}] = []
abbrev pub second_default : Parts
second_default =
    module_of
    (declaration 0 (declarator (array_pattern (default_at (ident (codes "a")) (number 1 (codes "1")) ∷ default_at (ident (codes "a")) (function_expression null [] []) ∷ [])) (array []) ∷ [])
    ∷ [])

-- module: var [e = 1, e = function () {}] = []
abbrev pub second_default_mangled : Parts
second_default_mangled =
    module_of
    (declaration 0 (declarator (array_pattern (default_at (ident (codes "e")) (number 1 (codes "1")) ∷ default_at (ident (codes "e")) (function_expression null [] []) ∷ [])) (array []) ∷ [])
    ∷ [])

-- module: var [a = function () {}, a = 1] = []
abbrev pub first_default : Parts
first_default =
    module_of
    (declaration 0 (declarator (array_pattern (default_at (ident (codes "a")) (function_expression null [] []) ∷ default_at (ident (codes "a")) (number 1 (codes "1")) ∷ [])) (array []) ∷ [])
    ∷ [])

-- module: var [e = function () {}, e = 1] = []
abbrev pub first_default_renamed : Parts
first_default_renamed =
    module_of
    (declaration 0 (declarator (array_pattern (default_at (ident (codes "e")) (function_expression null [] []) ∷ default_at (ident (codes "e")) (number 1 (codes "1")) ∷ [])) (array []) ∷ [])
    ∷ [])

-- script: (function f() { class f {} f })
abbrev pub class_in_function : Parts
class_in_function =
    script
    (statement (function_expression (ident (codes "f")) [] (class (ident (codes "f")) null [] ∷ statement (ident (codes "f")) ∷ []))
    ∷ [])

-- script: (function e() { class f {} f })
abbrev pub class_in_function_renamed : Parts
class_in_function_renamed =
    script
    (statement (function_expression (ident (codes "e")) [] (class (ident (codes "f")) null [] ∷ statement (ident (codes "f")) ∷ []))
    ∷ [])

-- script: (function e() { class e {} e })
abbrev pub class_in_function_mangled : Parts
class_in_function_mangled =
    script
    (statement (function_expression (ident (codes "e")) [] (class (ident (codes "e")) null [] ∷ statement (ident (codes "e")) ∷ []))
    ∷ [])

-- script: (function f() { class e {} e })
abbrev pub class_in_function_for_functions : Parts
class_in_function_for_functions =
    script
    (statement (function_expression (ident (codes "f")) [] (class (ident (codes "e")) null [] ∷ statement (ident (codes "e")) ∷ []))
    ∷ [])
