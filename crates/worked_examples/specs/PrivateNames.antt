-- Private members of classes. Made by tools/worked_examples.py.
use Rattle.std.specs.Prelude.{[], ◌∷◌, codes}
use Rattle.tree_nodes.specs.Tree.{Parts}
use Rattle.worked_examples.specs.Makers.{call, class, class_expression, computed_field, field, gives_back, ident, member, method, module_of, null, off, on, private, statement, string}

-- module: class A { #x; get #y() {} set #y(v) {} m() { class B { #z; n(o) { return o.#x } } } }
abbrev pub private_members : Parts
private_members =
    module_of
    (class (ident (codes "A")) null (field (private (codes "x")) ∷ method 2 off (private (codes "y")) [] [] ∷ method 3 off (private (codes "y")) (ident (codes "v") ∷ []) [] ∷ method 1 off (ident (codes "m")) [] (class (ident (codes "B")) null (field (private (codes "z")) ∷ method 1 off (ident (codes "n")) (ident (codes "o") ∷ []) (gives_back (member (ident (codes "o")) (private (codes "x"))) ∷ []) ∷ []) ∷ []) ∷ [])
    ∷ [])

-- module: class e { #e; get #t() {} set #t(e) {} m() { class e { #n; n(e) { return e.#e } } } }
abbrev pub private_members_mangled : Parts
private_members_mangled =
    module_of
    (class (ident (codes "e")) null (field (private (codes "e")) ∷ method 2 off (private (codes "t")) [] [] ∷ method 3 off (private (codes "t")) (ident (codes "e") ∷ []) [] ∷ method 1 off (ident (codes "m")) [] (class (ident (codes "e")) null (field (private (codes "n")) ∷ method 1 off (ident (codes "n")) (ident (codes "e") ∷ []) (gives_back (member (ident (codes "e")) (private (codes "e"))) ∷ []) ∷ []) ∷ []) ∷ [])
    ∷ [])

-- module: class e { #e; get #t() {} set #t(e) {} m() { class e { #e; n(e) { return e.#e } } } }
abbrev pub private_members_captured : Parts
private_members_captured =
    module_of
    (class (ident (codes "e")) null (field (private (codes "e")) ∷ method 2 off (private (codes "t")) [] [] ∷ method 3 off (private (codes "t")) (ident (codes "e") ∷ []) [] ∷ method 1 off (ident (codes "m")) [] (class (ident (codes "e")) null (field (private (codes "e")) ∷ method 1 off (ident (codes "n")) (ident (codes "e") ∷ []) (gives_back (member (ident (codes "e")) (private (codes "e"))) ∷ []) ∷ []) ∷ []) ∷ [])
    ∷ [])

-- module: class A { #x; m() { class B { #x; n() { class C { #y; k(o) { return o.#x } } } } } }
abbrev pub private_chain : Parts
private_chain =
    module_of
    (class (ident (codes "A")) null (field (private (codes "x")) ∷ method 1 off (ident (codes "m")) [] (class (ident (codes "B")) null (field (private (codes "x")) ∷ method 1 off (ident (codes "n")) [] (class (ident (codes "C")) null (field (private (codes "y")) ∷ method 1 off (ident (codes "k")) (ident (codes "o") ∷ []) (gives_back (member (ident (codes "o")) (private (codes "x"))) ∷ []) ∷ []) ∷ []) ∷ []) ∷ []) ∷ [])
    ∷ [])

-- module: class e { #e; m() { class e { #t; n() { class e { #n; k(e) { return e.#t } } } } } }
abbrev pub private_chain_mangled : Parts
private_chain_mangled =
    module_of
    (class (ident (codes "e")) null (field (private (codes "e")) ∷ method 1 off (ident (codes "m")) [] (class (ident (codes "e")) null (field (private (codes "t")) ∷ method 1 off (ident (codes "n")) [] (class (ident (codes "e")) null (field (private (codes "n")) ∷ method 1 off (ident (codes "k")) (ident (codes "e") ∷ []) (gives_back (member (ident (codes "e")) (private (codes "t"))) ∷ []) ∷ []) ∷ []) ∷ []) ∷ []) ∷ [])
    ∷ [])

-- module: class e { #e; m() { class e { #t; n() { class e { #n; k(e) { return e.#e } } } } } }
abbrev pub private_chain_past_its_class : Parts
private_chain_past_its_class =
    module_of
    (class (ident (codes "e")) null (field (private (codes "e")) ∷ method 1 off (ident (codes "m")) [] (class (ident (codes "e")) null (field (private (codes "t")) ∷ method 1 off (ident (codes "n")) [] (class (ident (codes "e")) null (field (private (codes "n")) ∷ method 1 off (ident (codes "k")) (ident (codes "e") ∷ []) (gives_back (member (ident (codes "e")) (private (codes "e"))) ∷ []) ∷ []) ∷ []) ∷ []) ∷ []) ∷ [])
    ∷ [])

-- module: class A { #x; m(o) { return class extends o.#x { #x; } } }
abbrev pub heritage : Parts
heritage =
    module_of
    (class (ident (codes "A")) null (field (private (codes "x")) ∷ method 1 off (ident (codes "m")) (ident (codes "o") ∷ []) (gives_back (class_expression null (member (ident (codes "o")) (private (codes "x"))) (field (private (codes "x")) ∷ [])) ∷ []) ∷ [])
    ∷ [])

-- module: class e { #e; m(e) { return class extends e.#e { #t; } } }
abbrev pub heritage_mangled : Parts
heritage_mangled =
    module_of
    (class (ident (codes "e")) null (field (private (codes "e")) ∷ method 1 off (ident (codes "m")) (ident (codes "e") ∷ []) (gives_back (class_expression null (member (ident (codes "e")) (private (codes "e"))) (field (private (codes "t")) ∷ [])) ∷ []) ∷ [])
    ∷ [])

-- module: class A { #x; m(o) { return class { [o.#x]; #y; } } }
abbrev pub computed_key : Parts
computed_key =
    module_of
    (class (ident (codes "A")) null (field (private (codes "x")) ∷ method 1 off (ident (codes "m")) (ident (codes "o") ∷ []) (gives_back (class_expression null null (computed_field (member (ident (codes "o")) (private (codes "x"))) ∷ field (private (codes "y")) ∷ [])) ∷ []) ∷ [])
    ∷ [])

-- module: class e { #e; m(e) { return class { [e.#e]; #t; } } }
abbrev pub computed_key_mangled : Parts
computed_key_mangled =
    module_of
    (class (ident (codes "e")) null (field (private (codes "e")) ∷ method 1 off (ident (codes "m")) (ident (codes "e") ∷ []) (gives_back (class_expression null null (computed_field (member (ident (codes "e")) (private (codes "e"))) ∷ field (private (codes "t")) ∷ [])) ∷ []) ∷ [])
    ∷ [])

-- module: class e { #e; m(e) { return class { [e.#e]; #e; } } }
abbrev pub computed_key_captured : Parts
computed_key_captured =
    module_of
    (class (ident (codes "e")) null (field (private (codes "e")) ∷ method 1 off (ident (codes "m")) (ident (codes "e") ∷ []) (gives_back (class_expression null null (computed_field (member (ident (codes "e")) (private (codes "e"))) ∷ field (private (codes "e")) ∷ [])) ∷ []) ∷ [])
    ∷ [])

-- module: class e { #e; m(e) { return class { [e.#t]; #t; } } }
abbrev pub computed_key_of_its_class : Parts
computed_key_of_its_class =
    module_of
    (class (ident (codes "e")) null (field (private (codes "e")) ∷ method 1 off (ident (codes "m")) (ident (codes "e") ∷ []) (gives_back (class_expression null null (computed_field (member (ident (codes "e")) (private (codes "t"))) ∷ field (private (codes "t")) ∷ [])) ∷ []) ∷ [])
    ∷ [])

-- module: class A { #x; m() { eval("this.#x") } }
abbrev pub open_class : Parts
open_class =
    module_of
    (class (ident (codes "A")) null (field (private (codes "x")) ∷ method 1 off (ident (codes "m")) [] (statement (call (ident (codes "eval")) (string (codes "this.#x") (codes "\"this.#x\"") ∷ [])) ∷ []) ∷ [])
    ∷ [])

-- module: class A { #e; m() { eval("this.#x") } }
abbrev pub open_class_renamed : Parts
open_class_renamed =
    module_of
    (class (ident (codes "A")) null (field (private (codes "e")) ∷ method 1 off (ident (codes "m")) [] (statement (call (ident (codes "eval")) (string (codes "this.#x") (codes "\"this.#x\"") ∷ [])) ∷ []) ∷ [])
    ∷ [])

-- module: class A { #e; m() { eval("") } static n() { class B { #y; k(o) { return o.#e } } } }
abbrev pub open_class_around : Parts
open_class_around =
    module_of
    (class (ident (codes "A")) null (field (private (codes "e")) ∷ method 1 off (ident (codes "m")) [] (statement (call (ident (codes "eval")) (string (codes "") (codes "\"\"") ∷ [])) ∷ []) ∷ method 1 on (ident (codes "n")) [] (class (ident (codes "B")) null (field (private (codes "y")) ∷ method 1 off (ident (codes "k")) (ident (codes "o") ∷ []) (gives_back (member (ident (codes "o")) (private (codes "e"))) ∷ []) ∷ []) ∷ []) ∷ [])
    ∷ [])

-- module: class A { #e; m() { eval("") } static n() { class e { #t; k(e) { return e.#e } } } }
abbrev pub open_class_around_mangled : Parts
open_class_around_mangled =
    module_of
    (class (ident (codes "A")) null (field (private (codes "e")) ∷ method 1 off (ident (codes "m")) [] (statement (call (ident (codes "eval")) (string (codes "") (codes "\"\"") ∷ [])) ∷ []) ∷ method 1 on (ident (codes "n")) [] (class (ident (codes "e")) null (field (private (codes "t")) ∷ method 1 off (ident (codes "k")) (ident (codes "e") ∷ []) (gives_back (member (ident (codes "e")) (private (codes "e"))) ∷ []) ∷ []) ∷ []) ∷ [])
    ∷ [])
