-- Imports and exports. Made by tools/worked_examples.py.
use Rattle.std.specs.Prelude.{[], ◌∷◌, codes}
use Rattle.tree_nodes.specs.Tree.{Parts}
use Rattle.worked_examples.specs.Makers.{attribute, declaration, declarator, export, export_all, export_from, export_names, exported, function, gives_back, ident, import_from, imported, meta_property, module_of, null, number, statement, string}

-- module: export const x = 1; let y = x; export { y as z }
abbrev pub exports : Parts
exports =
    module_of
    (export (declaration 2 (declarator (ident (codes "x")) (number 1 (codes "1")) ∷ []))
    ∷ declaration 1 (declarator (ident (codes "y")) (ident (codes "x")) ∷ [])
    ∷ export_names (exported (ident (codes "y")) (ident (codes "z")) ∷ [])
    ∷ [])

-- module: export const x = 1; let e = x; export { e as z }
abbrev pub exports_mangled : Parts
exports_mangled =
    module_of
    (export (declaration 2 (declarator (ident (codes "x")) (number 1 (codes "1")) ∷ []))
    ∷ declaration 1 (declarator (ident (codes "e")) (ident (codes "x")) ∷ [])
    ∷ export_names (exported (ident (codes "e")) (ident (codes "z")) ∷ [])
    ∷ [])

-- module: export const t = 1; let e = t; export { e as z }
abbrev pub exports_renamed : Parts
exports_renamed =
    module_of
    (export (declaration 2 (declarator (ident (codes "t")) (number 1 (codes "1")) ∷ []))
    ∷ declaration 1 (declarator (ident (codes "e")) (ident (codes "t")) ∷ [])
    ∷ export_names (exported (ident (codes "e")) (ident (codes "z")) ∷ [])
    ∷ [])

-- module: export const x = 1; let e = x; export { e as e }
abbrev pub exports_by_another_name : Parts
exports_by_another_name =
    module_of
    (export (declaration 2 (declarator (ident (codes "x")) (number 1 (codes "1")) ∷ []))
    ∷ declaration 1 (declarator (ident (codes "e")) (ident (codes "x")) ∷ [])
    ∷ export_names (exported (ident (codes "e")) (ident (codes "e")) ∷ [])
    ∷ [])

-- module: export function f(a) { return a }
abbrev pub exported_function : Parts
exported_function =
    module_of
    (export (function (ident (codes "f")) (ident (codes "a") ∷ []) (gives_back (ident (codes "a")) ∷ []))
    ∷ [])

-- module: export function f(e) { return e }
abbrev pub exported_function_mangled : Parts
exported_function_mangled =
    module_of
    (export (function (ident (codes "f")) (ident (codes "e") ∷ []) (gives_back (ident (codes "e")) ∷ []))
    ∷ [])

-- module: var x = 1; export var x; let y = x
abbrev pub exported_again : Parts
exported_again =
    module_of
    (declaration 0 (declarator (ident (codes "x")) (number 1 (codes "1")) ∷ [])
    ∷ export (declaration 0 (declarator (ident (codes "x")) null ∷ []))
    ∷ declaration 1 (declarator (ident (codes "y")) (ident (codes "x")) ∷ [])
    ∷ [])

-- module: var x = 1; export var x; let e = x
abbrev pub exported_again_mangled : Parts
exported_again_mangled =
    module_of
    (declaration 0 (declarator (ident (codes "x")) (number 1 (codes "1")) ∷ [])
    ∷ export (declaration 0 (declarator (ident (codes "x")) null ∷ []))
    ∷ declaration 1 (declarator (ident (codes "e")) (ident (codes "x")) ∷ [])
    ∷ [])

-- module: var t = 1; export var t; let e = t
abbrev pub exported_again_renamed : Parts
exported_again_renamed =
    module_of
    (declaration 0 (declarator (ident (codes "t")) (number 1 (codes "1")) ∷ [])
    ∷ export (declaration 0 (declarator (ident (codes "t")) null ∷ []))
    ∷ declaration 1 (declarator (ident (codes "e")) (ident (codes "t")) ∷ [])
    ∷ [])

-- module: import { a } from "m"; a
abbrev pub imports : Parts
imports =
    module_of
    (import_from (imported (ident (codes "a")) (ident (codes "a")) ∷ []) (string (codes "m") (codes "\"m\"")) []
    ∷ statement (ident (codes "a"))
    ∷ [])

-- module: import { a as e } from "m"; e
abbrev pub imports_mangled : Parts
imports_mangled =
    module_of
    (import_from (imported (ident (codes "a")) (ident (codes "e")) ∷ []) (string (codes "m") (codes "\"m\"")) []
    ∷ statement (ident (codes "e"))
    ∷ [])

-- module: import { e } from "m"; e
abbrev pub imports_of_another_name : Parts
imports_of_another_name =
    module_of
    (import_from (imported (ident (codes "e")) (ident (codes "e")) ∷ []) (string (codes "m") (codes "\"m\"")) []
    ∷ statement (ident (codes "e"))
    ∷ [])

-- module: let a = 1; export { a as b } from "m"; a
abbrev pub passed_on : Parts
passed_on =
    module_of
    (declaration 1 (declarator (ident (codes "a")) (number 1 (codes "1")) ∷ [])
    ∷ export_from (exported (ident (codes "a")) (ident (codes "b")) ∷ []) (string (codes "m") (codes "\"m\""))
    ∷ statement (ident (codes "a"))
    ∷ [])

-- module: let e = 1; export { a as b } from "m"; e
abbrev pub passed_on_mangled : Parts
passed_on_mangled =
    module_of
    (declaration 1 (declarator (ident (codes "e")) (number 1 (codes "1")) ∷ [])
    ∷ export_from (exported (ident (codes "a")) (ident (codes "b")) ∷ []) (string (codes "m") (codes "\"m\""))
    ∷ statement (ident (codes "e"))
    ∷ [])

-- module: let e = 1; export { e as b } from "m"; e
abbrev pub passed_on_of_another_name : Parts
passed_on_of_another_name =
    module_of
    (declaration 1 (declarator (ident (codes "e")) (number 1 (codes "1")) ∷ [])
    ∷ export_from (exported (ident (codes "e")) (ident (codes "b")) ∷ []) (string (codes "m") (codes "\"m\""))
    ∷ statement (ident (codes "e"))
    ∷ [])

-- module: let a = 1; export * as a from "m"; a
abbrev pub all_passed_on : Parts
all_passed_on =
    module_of
    (declaration 1 (declarator (ident (codes "a")) (number 1 (codes "1")) ∷ [])
    ∷ export_all (ident (codes "a")) (string (codes "m") (codes "\"m\""))
    ∷ statement (ident (codes "a"))
    ∷ [])

-- module: let e = 1; export * as a from "m"; e
abbrev pub all_passed_on_mangled : Parts
all_passed_on_mangled =
    module_of
    (declaration 1 (declarator (ident (codes "e")) (number 1 (codes "1")) ∷ [])
    ∷ export_all (ident (codes "a")) (string (codes "m") (codes "\"m\""))
    ∷ statement (ident (codes "e"))
    ∷ [])

-- module: let e = 1; export * as e from "m"; e
abbrev pub all_passed_on_by_another_name : Parts
all_passed_on_by_another_name =
    module_of
    (declaration 1 (declarator (ident (codes "e")) (number 1 (codes "1")) ∷ [])
    ∷ export_all (ident (codes "e")) (string (codes "m") (codes "\"m\""))
    ∷ statement (ident (codes "e"))
    ∷ [])

-- module: import { a } from "m" with { a: "b" }; a
abbrev pub attributes : Parts
attributes =
    module_of
    (import_from (imported (ident (codes "a")) (ident (codes "a")) ∷ []) (string (codes "m") (codes "\"m\"")) (attribute (ident (codes "a")) (string (codes "b") (codes "\"b\"")) ∷ [])
    ∷ statement (ident (codes "a"))
    ∷ [])

-- module: import { a as e } from "m" with { a: "b" }; e
abbrev pub attributes_mangled : Parts
attributes_mangled =
    module_of
    (import_from (imported (ident (codes "a")) (ident (codes "e")) ∷ []) (string (codes "m") (codes "\"m\"")) (attribute (ident (codes "a")) (string (codes "b") (codes "\"b\"")) ∷ [])
    ∷ statement (ident (codes "e"))
    ∷ [])

-- module: import { a as e } from "m" with { e: "b" }; e
abbrev pub attributes_renamed : Parts
attributes_renamed =
    module_of
    (import_from (imported (ident (codes "a")) (ident (codes "e")) ∷ []) (string (codes "m") (codes "\"m\"")) (attribute (ident (codes "e")) (string (codes "b") (codes "\"b\"")) ∷ [])
    ∷ statement (ident (codes "e"))
    ∷ [])

-- module: let meta = import.meta; meta
abbrev pub import_meta : Parts
import_meta =
    module_of
    (declaration 1 (declarator (ident (codes "meta")) (meta_property (ident (codes "import")) (ident (codes "meta"))) ∷ [])
    ∷ statement (ident (codes "meta"))
    ∷ [])

-- module: let e = import.meta; e
abbrev pub import_meta_mangled : Parts
import_meta_mangled =
    module_of
    (declaration 1 (declarator (ident (codes "e")) (meta_property (ident (codes "import")) (ident (codes "meta"))) ∷ [])
    ∷ statement (ident (codes "e"))
    ∷ [])

-- module: let e = import.e; e
abbrev pub import_meta_renamed : Parts
import_meta_renamed =
    module_of
    (declaration 1 (declarator (ident (codes "e")) (meta_property (ident (codes "import")) (ident (codes "e"))) ∷ [])
    ∷ statement (ident (codes "e"))
    ∷ [])
