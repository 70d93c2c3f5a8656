-- Classes, their own names and static blocks. Made by tools/worked_examples.py.
use Rattle.std.specs.Prelude.{[], ◌∷◌, codes}
use Rattle.tree_nodes.specs.Tree.{Parts}
use Rattle.worked_examples.specs.Makers.{class, class_expression, computed_method, declaration, declarator, gives_back, ident, method, module_of, null, number, off, statement, static_block}

-- module: let A = 1; (class A extends A { [A]() { return A } })
abbrev pub own_name : Parts
own_name =
    module_of
    (declaration 1 (declarator (ident (codes "A")) (number 1 (codes "1")) ∷ [])
    ∷ statement (class_expression (ident (codes "A")) (ident (codes "A")) (computed_method (ident (codes "A")) [] (gives_back (ident (codes "A")) ∷ []) ∷ []))
    ∷ [])

-- module: let e = 1; (class e extends e { [e]() { return e } })
abbrev pub own_name_mangled : Parts
own_name_mangled =
    module_of
    (declaration 1 (declarator (ident (codes "e")) (number 1 (codes "1")) ∷ [])
    ∷ statement (class_expression (ident (codes "e")) (ident (codes "e")) (computed_method (ident (codes "e")) [] (gives_back (ident (codes "e")) ∷ []) ∷ []))
    ∷ [])

-- module: let e = 1; (class t extends e { [t]() { return t } })
abbrev pub own_name_unseen_in_heritage : Parts
own_name_unseen_in_heritage =
    module_of
    (declaration 1 (declarator (ident (codes "e")) (number 1 (codes "1")) ∷ [])
    ∷ statement (class_expression (ident (codes "t")) (ident (codes "e")) (computed_method (ident (codes "t")) [] (gives_back (ident (codes "t")) ∷ []) ∷ []))
    ∷ [])

-- module: let e = 1; (class t extends t { [e]() { return t } })
abbrev pub own_name_unseen_in_key : Parts
own_name_unseen_in_key =
    module_of
    (declaration 1 (declarator (ident (codes "e")) (number 1 (codes "1")) ∷ [])
    ∷ statement (class_expression (ident (codes "t")) (ident (codes "t")) (computed_method (ident (codes "e")) [] (gives_back (ident (codes "t")) ∷ []) ∷ []))
    ∷ [])

-- module: let e = 1; (class t extends t { [t]() { return e } })
abbrev pub own_name_unseen_in_body : Parts
own_name_unseen_in_body =
    module_of
    (declaration 1 (declarator (ident (codes "e")) (number 1 (codes "1")) ∷ [])
    ∷ statement (class_expression (ident (codes "t")) (ident (codes "t")) (computed_method (ident (codes "t")) [] (gives_back (ident (codes "e")) ∷ []) ∷ []))
    ∷ [])

-- module: class A extends (class B { m() { return A } }) {}
abbrev pub class_in_heritage : Parts
class_in_heritage =
    module_of
    (class (ident (codes "A")) (class_expression (ident (codes "B")) null (method 1 off (ident (codes "m")) [] (gives_back (ident (codes "A")) ∷ []) ∷ [])) []
    ∷ [])

-- module: class e extends (class t { m() { return e } }) {}
abbrev pub class_in_heritage_mangled : Parts
class_in_heritage_mangled =
    module_of
    (class (ident (codes "e")) (class_expression (ident (codes "t")) null (method 1 off (ident (codes "m")) [] (gives_back (ident (codes "e")) ∷ []) ∷ [])) []
    ∷ [])

-- module: class e extends (class e { m() { return e } }) {}
abbrev pub class_in_heritage_captured : Parts
class_in_heritage_captured =
    module_of
    (class (ident (codes "e")) (class_expression (ident (codes "e")) null (method 1 off (ident (codes "m")) [] (gives_back (ident (codes "e")) ∷ []) ∷ [])) []
    ∷ [])

-- module: let x = 1; class A { static { var x = 2; x } } x
abbrev pub block_in_class : Parts
block_in_class =
    module_of
    (declaration 1 (declarator (ident (codes "x")) (number 1 (codes "1")) ∷ [])
    ∷ class (ident (codes "A")) null (static_block (declaration 0 (declarator (ident (codes "x")) (number 2 (codes "2")) ∷ []) ∷ statement (ident (codes "x")) ∷ []) ∷ [])
    ∷ statement (ident (codes "x"))
    ∷ [])

-- module: let e = 1; class t { static { var e = 2; e } } e
abbrev pub block_in_class_mangled : Parts
block_in_class_mangled =
    module_of
    (declaration 1 (declarator (ident (codes "e")) (number 1 (codes "1")) ∷ [])
    ∷ class (ident (codes "t")) null (static_block (declaration 0 (declarator (ident (codes "e")) (number 2 (codes "2")) ∷ []) ∷ statement (ident (codes "e")) ∷ []) ∷ [])
    ∷ statement (ident (codes "e"))
    ∷ [])

-- module: let e = 1; class t { static { var n = 2; n } } e
abbrev pub block_in_class_by_three_names : Parts
block_in_class_by_three_names =
    module_of
    (declaration 1 (declarator (ident (codes "e")) (number 1 (codes "1")) ∷ [])
    ∷ class (ident (codes "t")) null (static_block (declaration 0 (declarator (ident (codes "n")) (number 2 (codes "2")) ∷ []) ∷ statement (ident (codes "n")) ∷ []) ∷ [])
    ∷ statement (ident (codes "e"))
    ∷ [])

-- module: let e = 1; class t { static { var n = 2; n } } n
abbrev pub block_in_class_seen_behind : Parts
block_in_class_seen_behind =
    module_of
    (declaration 1 (declarator (ident (codes "e")) (number 1 (codes "1")) ∷ [])
    ∷ class (ident (codes "t")) null (static_block (declaration 0 (declarator (ident (codes "n")) (number 2 (codes "2")) ∷ []) ∷ statement (ident (codes "n")) ∷ []) ∷ [])
    ∷ statement (ident (codes "n"))
    ∷ [])
