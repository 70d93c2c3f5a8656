-- Trees with faults in their scopes, and trees beside them that have none. Made by tools/worked_examples.py.
use Rattle.std.specs.Prelude.{[], ◌∷◌, codes}
use Rattle.tree_nodes.specs.Tree.{Parts}
use Rattle.worked_examples.specs.Makers.{async_function, block, class, declaration, declarator, default_at, directive, function, function_expression, gives_back, ident, member, method, module_of, null, off, private, script, statement, this, try_catch}

-- module: let x; var x
abbrev pub redeclared : Parts
redeclared =
    module_of
    (declaration 1 (declarator (ident (codes "x")) null ∷ [])
    ∷ declaration 0 (declarator (ident (codes "x")) null ∷ [])
    ∷ [])

-- module: function f(a) { let a }
abbrev pub parameter_redeclared : Parts
parameter_redeclared =
    module_of
    (function (ident (codes "f")) (ident (codes "a") ∷ []) (declaration 1 (declarator (ident (codes "a")) null ∷ []) ∷ [])
    ∷ [])

-- module: try {} catch (e) { let e }
abbrev pub catch_parameter_redeclared : Parts
catch_parameter_redeclared =
    module_of (try_catch [] (ident (codes "e")) (declaration 1 (declarator (ident (codes "e")) null ∷ []) ∷ []) ∷ [])

-- module: { function g() {} function g() {} }
abbrev pub block_function_redeclared : Parts
block_function_redeclared =
    module_of (block (function (ident (codes "g")) [] [] ∷ function (ident (codes "g")) [] [] ∷ []) ∷ [])

-- module: { let x; { var x } }
abbrev pub crossed : Parts
crossed =
    module_of
    (block (declaration 1 (declarator (ident (codes "x")) null ∷ []) ∷ block (declaration 0 (declarator (ident (codes "x")) null ∷ []) ∷ []) ∷ [])
    ∷ [])

-- module: try {} catch (e) { var e }
abbrev pub catch_crossed : Parts
catch_crossed =
    module_of (try_catch [] (ident (codes "e")) (declaration 0 (declarator (ident (codes "e")) null ∷ []) ∷ []) ∷ [])

-- module: { using x = a; var x }
abbrev pub using_crossed : Parts
using_crossed =
    module_of
    (block (declaration 3 (declarator (ident (codes "x")) (ident (codes "a")) ∷ []) ∷ declaration 0 (declarator (ident (codes "x")) null ∷ []) ∷ [])
    ∷ [])

-- module: function f(a = b) { var b }
abbrev pub body_reached : Parts
body_reached =
    module_of
    (function (ident (codes "f")) (default_at (ident (codes "a")) (ident (codes "b")) ∷ []) (declaration 0 (declarator (ident (codes "b")) null ∷ []) ∷ [])
    ∷ [])

-- module: function f(a = function () { return b }) { var b }
abbrev pub body_reached_from_inside : Parts
body_reached_from_inside =
    module_of
    (function (ident (codes "f")) (default_at (ident (codes "a")) (function_expression null [] (gives_back (ident (codes "b")) ∷ [])) ∷ []) (declaration 0 (declarator (ident (codes "b")) null ∷ []) ∷ [])
    ∷ [])

-- module: (function f(a = f) { var f })
abbrev pub own_name_reached : Parts
own_name_reached =
    module_of
    (statement (function_expression (ident (codes "f")) (default_at (ident (codes "a")) (ident (codes "f")) ∷ []) (declaration 0 (declarator (ident (codes "f")) null ∷ []) ∷ []))
    ∷ [])

-- module: function f(b, a = b) { var b }
abbrev pub parameter_reached : Parts
parameter_reached =
    module_of
    (function (ident (codes "f")) (ident (codes "b") ∷ default_at (ident (codes "a")) (ident (codes "b")) ∷ []) (declaration 0 (declarator (ident (codes "b")) null ∷ []) ∷ [])
    ∷ [])

-- module: this.#q
abbrev pub undeclared_private : Parts
undeclared_private = module_of (statement (member this (private (codes "q"))) ∷ [])

-- script: { function g() {} }
abbrev pub sloppy_function : Parts
sloppy_function = script (block (function (ident (codes "g")) [] [] ∷ []) ∷ [])

-- script: { function g() { "use strict" } }
abbrev pub sloppy_function_with_directive : Parts
sloppy_function_with_directive =
    script
    (block (function (ident (codes "g")) [] (directive (codes "use strict") (codes "\"use strict\"") ∷ []) ∷ [])
    ∷ [])

-- module: { function g() {} }
abbrev pub strict_function : Parts
strict_function = module_of (block (function (ident (codes "g")) [] [] ∷ []) ∷ [])

-- module: { function e() {} }
abbrev pub strict_function_mangled : Parts
strict_function_mangled = module_of (block (function (ident (codes "e")) [] [] ∷ []) ∷ [])

-- script: "use strict"; { function g() {} }
abbrev pub directed_function : Parts
directed_function =
    script
    (directive (codes "use strict") (codes "\"use strict\"")
    ∷ block (function (ident (codes "g")) [] [] ∷ [])
    ∷ [])

-- script: function f() { "use strict"; { function g() {} } }
abbrev pub function_in_directed : Parts
function_in_directed =
    script
    (function (ident (codes "f")) [] (directive (codes "use strict") (codes "\"use strict\"") ∷ block (function (ident (codes "g")) [] [] ∷ []) ∷ [])
    ∷ [])

-- script: class A { m() { { function g() {} } } }
abbrev pub function_in_class : Parts
function_in_class =
    script
    (class (ident (codes "A")) null (method 1 off (ident (codes "m")) [] (block (function (ident (codes "g")) [] [] ∷ []) ∷ []) ∷ [])
    ∷ [])

-- script: { async function g() {} }
abbrev pub async_function_in_block : Parts
async_function_in_block = script (block (async_function (ident (codes "g")) [] [] ∷ []) ∷ [])

-- script: var x; var x; function x() {}
abbrev pub joined : Parts
joined =
    script
    (declaration 0 (declarator (ident (codes "x")) null ∷ [])
    ∷ declaration 0 (declarator (ident (codes "x")) null ∷ [])
    ∷ function (ident (codes "x")) [] []
    ∷ [])

-- module: let x; function f() { var x }
abbrev pub declared_inside : Parts
declared_inside =
    module_of
    (declaration 1 (declarator (ident (codes "x")) null ∷ [])
    ∷ function (ident (codes "f")) [] (declaration 0 (declarator (ident (codes "x")) null ∷ []) ∷ [])
    ∷ [])
