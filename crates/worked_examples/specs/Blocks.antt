-- Declarations in modules and blocks. Made by tools/worked_examples.py.
use Rattle.std.specs.Prelude.{[], ◌∷◌, codes}
use Rattle.tree_nodes.specs.Tree.{Parts}
use Rattle.worked_examples.specs.Makers.{block, call, case, declaration, declarator, default_at, for_in, for_loop, for_of, function, function_expression, gives_back, ident, labeled, leave, module_of, null, number, object, object_pattern, property, shorthand, statement, switch, try_catch}

-- module: let x = 1; x
abbrev pub acorn_module : Parts
acorn_module =
    module_of
    (declaration 1 (declarator (ident (codes "x")) (number 1 (codes "1")) ∷ [])
    ∷ statement (ident (codes "x"))
    ∷ [])

-- module: let e = 1; e
abbrev pub acorn_module_mangled : Parts
acorn_module_mangled =
    module_of
    (declaration 1 (declarator (ident (codes "e")) (number 1 (codes "1")) ∷ [])
    ∷ statement (ident (codes "e"))
    ∷ [])

-- module: let do = 1; do
abbrev pub acorn_module_by_keyword : Parts
acorn_module_by_keyword =
    module_of
    (declaration 1 (declarator (ident (codes "do")) (number 1 (codes "1")) ∷ [])
    ∷ statement (ident (codes "do"))
    ∷ [])

-- module: let eval = 1; eval
abbrev pub acorn_module_by_eval : Parts
acorn_module_by_eval =
    module_of
    (declaration 1 (declarator (ident (codes "eval")) (number 1 (codes "1")) ∷ [])
    ∷ statement (ident (codes "eval"))
    ∷ [])

-- module: let e = 1; t
abbrev pub acorn_module_by_two_names : Parts
acorn_module_by_two_names =
    module_of
    (declaration 1 (declarator (ident (codes "e")) (number 1 (codes "1")) ∷ [])
    ∷ statement (ident (codes "t"))
    ∷ [])

-- module: let e = 2; e
abbrev pub acorn_module_changed : Parts
acorn_module_changed =
    module_of
    (declaration 1 (declarator (ident (codes "e")) (number 2 (codes "2")) ∷ [])
    ∷ statement (ident (codes "e"))
    ∷ [])

-- module without a statement
abbrev pub empty_module : Parts
empty_module = module_of []

-- module: { let y = 1; y } { let z = 2; z }
abbrev pub sibling_blocks : Parts
sibling_blocks =
    module_of
    (block (declaration 1 (declarator (ident (codes "y")) (number 1 (codes "1")) ∷ []) ∷ statement (ident (codes "y")) ∷ [])
    ∷ block (declaration 1 (declarator (ident (codes "z")) (number 2 (codes "2")) ∷ []) ∷ statement (ident (codes "z")) ∷ [])
    ∷ [])

-- module: { let e = 1; e } { let e = 2; e }
abbrev pub sibling_blocks_mangled : Parts
sibling_blocks_mangled =
    module_of
    (block (declaration 1 (declarator (ident (codes "e")) (number 1 (codes "1")) ∷ []) ∷ statement (ident (codes "e")) ∷ [])
    ∷ block (declaration 1 (declarator (ident (codes "e")) (number 2 (codes "2")) ∷ []) ∷ statement (ident (codes "e")) ∷ [])
    ∷ [])

-- module: { let do = 1; do } { let if = 2; if }
abbrev pub sibling_blocks_by_keywords : Parts
sibling_blocks_by_keywords =
    module_of
    (block (declaration 1 (declarator (ident (codes "do")) (number 1 (codes "1")) ∷ []) ∷ statement (ident (codes "do")) ∷ [])
    ∷ block (declaration 1 (declarator (ident (codes "if")) (number 2 (codes "2")) ∷ []) ∷ statement (ident (codes "if")) ∷ [])
    ∷ [])

-- module: let x = 1; { let y = x; y }
abbrev pub inner_use : Parts
inner_use =
    module_of
    (declaration 1 (declarator (ident (codes "x")) (number 1 (codes "1")) ∷ [])
    ∷ block (declaration 1 (declarator (ident (codes "y")) (ident (codes "x")) ∷ []) ∷ statement (ident (codes "y")) ∷ [])
    ∷ [])

-- module: let e = 1; { let t = e; t }
abbrev pub inner_use_mangled : Parts
inner_use_mangled =
    module_of
    (declaration 1 (declarator (ident (codes "e")) (number 1 (codes "1")) ∷ [])
    ∷ block (declaration 1 (declarator (ident (codes "t")) (ident (codes "e")) ∷ []) ∷ statement (ident (codes "t")) ∷ [])
    ∷ [])

-- module: let e = 1; { let e = e; e }
abbrev pub inner_use_by_one_name : Parts
inner_use_by_one_name =
    module_of
    (declaration 1 (declarator (ident (codes "e")) (number 1 (codes "1")) ∷ [])
    ∷ block (declaration 1 (declarator (ident (codes "e")) (ident (codes "e")) ∷ []) ∷ statement (ident (codes "e")) ∷ [])
    ∷ [])

-- module: { let a = 1; a; { var b = 2 } } b
abbrev pub var_in_block : Parts
var_in_block =
    module_of
    (block (declaration 1 (declarator (ident (codes "a")) (number 1 (codes "1")) ∷ []) ∷ statement (ident (codes "a")) ∷ block (declaration 0 (declarator (ident (codes "b")) (number 2 (codes "2")) ∷ []) ∷ []) ∷ [])
    ∷ statement (ident (codes "b"))
    ∷ [])

-- module: { let t = 1; t; { var e = 2 } } e
abbrev pub var_in_block_mangled : Parts
var_in_block_mangled =
    module_of
    (block (declaration 1 (declarator (ident (codes "t")) (number 1 (codes "1")) ∷ []) ∷ statement (ident (codes "t")) ∷ block (declaration 0 (declarator (ident (codes "e")) (number 2 (codes "2")) ∷ []) ∷ []) ∷ [])
    ∷ statement (ident (codes "e"))
    ∷ [])

-- module: { let e = 1; e; { var e = 2 } } e
abbrev pub var_in_block_by_one_name : Parts
var_in_block_by_one_name =
    module_of
    (block (declaration 1 (declarator (ident (codes "e")) (number 1 (codes "1")) ∷ []) ∷ statement (ident (codes "e")) ∷ block (declaration 0 (declarator (ident (codes "e")) (number 2 (codes "2")) ∷ []) ∷ []) ∷ [])
    ∷ statement (ident (codes "e"))
    ∷ [])

-- module: e(); let x = t
abbrev pub unresolved : Parts
unresolved =
    module_of
    (statement (call (ident (codes "e")) [])
    ∷ declaration 1 (declarator (ident (codes "x")) (ident (codes "t")) ∷ [])
    ∷ [])

-- module: e(); let n = t
abbrev pub unresolved_mangled : Parts
unresolved_mangled =
    module_of
    (statement (call (ident (codes "e")) [])
    ∷ declaration 1 (declarator (ident (codes "n")) (ident (codes "t")) ∷ [])
    ∷ [])

-- module: e(); let t = t
abbrev pub unresolved_captured : Parts
unresolved_captured =
    module_of
    (statement (call (ident (codes "e")) [])
    ∷ declaration 1 (declarator (ident (codes "t")) (ident (codes "t")) ∷ [])
    ∷ [])

-- module: e(); let e = t
abbrev pub unresolved_captured_call : Parts
unresolved_captured_call =
    module_of
    (statement (call (ident (codes "e")) [])
    ∷ declaration 1 (declarator (ident (codes "e")) (ident (codes "t")) ∷ [])
    ∷ [])

-- module: r(); let n = t
abbrev pub unresolved_renamed : Parts
unresolved_renamed =
    module_of
    (statement (call (ident (codes "r")) [])
    ∷ declaration 1 (declarator (ident (codes "n")) (ident (codes "t")) ∷ [])
    ∷ [])

-- module: let x = 1; ({ x })
abbrev pub shorthand_use : Parts
shorthand_use =
    module_of
    (declaration 1 (declarator (ident (codes "x")) (number 1 (codes "1")) ∷ [])
    ∷ statement (object (shorthand (ident (codes "x")) (ident (codes "x")) ∷ []))
    ∷ [])

-- module: let e = 1; ({ x: e })
abbrev pub shorthand_use_mangled : Parts
shorthand_use_mangled =
    module_of
    (declaration 1 (declarator (ident (codes "e")) (number 1 (codes "1")) ∷ [])
    ∷ statement (object (property (ident (codes "x")) (ident (codes "e")) ∷ []))
    ∷ [])

-- module: let e = 1; ({ x :: e })
abbrev pub shorthand_use_marked : Parts
shorthand_use_marked =
    module_of
    (declaration 1 (declarator (ident (codes "e")) (number 1 (codes "1")) ∷ [])
    ∷ statement (object (shorthand (ident (codes "x")) (ident (codes "e")) ∷ []))
    ∷ [])

-- module: let e = 1; ({ e })
abbrev pub shorthand_use_by_key : Parts
shorthand_use_by_key =
    module_of
    (declaration 1 (declarator (ident (codes "e")) (number 1 (codes "1")) ∷ [])
    ∷ statement (object (shorthand (ident (codes "e")) (ident (codes "e")) ∷ []))
    ∷ [])

-- module: ({ x })
abbrev pub global_shorthand : Parts
global_shorthand = module_of (statement (object (shorthand (ident (codes "x")) (ident (codes "x")) ∷ [])) ∷ [])

-- module: ({ x: x })
abbrev pub global_shorthand_ended : Parts
global_shorthand_ended = module_of (statement (object (property (ident (codes "x")) (ident (codes "x")) ∷ [])) ∷ [])

-- module: let x = 1; ({ e: x })
abbrev pub written_out : Parts
written_out =
    module_of
    (declaration 1 (declarator (ident (codes "x")) (number 1 (codes "1")) ∷ [])
    ∷ statement (object (property (ident (codes "e")) (ident (codes "x")) ∷ []))
    ∷ [])

-- module: let e = 1; ({ e: e })
abbrev pub written_out_mangled : Parts
written_out_mangled =
    module_of
    (declaration 1 (declarator (ident (codes "e")) (number 1 (codes "1")) ∷ [])
    ∷ statement (object (property (ident (codes "e")) (ident (codes "e")) ∷ []))
    ∷ [])

-- module: let e = 1; ({ e })
abbrev pub written_out_marked : Parts
written_out_marked =
    module_of
    (declaration 1 (declarator (ident (codes "e")) (number 1 (codes "1")) ∷ [])
    ∷ statement (object (shorthand (ident (codes "e")) (ident (codes "e")) ∷ []))
    ∷ [])

-- module: let { x = 1 } = {}; x
abbrev pub shorthand_pattern : Parts
shorthand_pattern =
    module_of
    (declaration 1 (declarator (object_pattern (shorthand (ident (codes "x")) (default_at (ident (codes "x")) (number 1 (codes "1"))) ∷ [])) (object []) ∷ [])
    ∷ statement (ident (codes "x"))
    ∷ [])

-- module: let { x: e = 1 } = {}; e
abbrev pub shorthand_pattern_mangled : Parts
shorthand_pattern_mangled =
    module_of
    (declaration 1 (declarator (object_pattern (property (ident (codes "x")) (default_at (ident (codes "e")) (number 1 (codes "1"))) ∷ [])) (object []) ∷ [])
    ∷ statement (ident (codes "e"))
    ∷ [])

-- module: let alpha = 1; let beta = 2; beta; beta; alpha
abbrev pub ranked : Parts
ranked =
    module_of
    (declaration 1 (declarator (ident (codes "alpha")) (number 1 (codes "1")) ∷ [])
    ∷ declaration 1 (declarator (ident (codes "beta")) (number 2 (codes "2")) ∷ [])
    ∷ statement (ident (codes "beta"))
    ∷ statement (ident (codes "beta"))
    ∷ statement (ident (codes "alpha"))
    ∷ [])

-- module: let ee = 1; let $ = 2; $; $; ee
abbrev pub ranked_mangled : Parts
ranked_mangled =
    module_of
    (declaration 1 (declarator (ident (codes "ee")) (number 1 (codes "1")) ∷ [])
    ∷ declaration 1 (declarator (ident (codes "$")) (number 2 (codes "2")) ∷ [])
    ∷ statement (ident (codes "$"))
    ∷ statement (ident (codes "$"))
    ∷ statement (ident (codes "ee"))
    ∷ [])

-- module: let $ = 1; let ee = 2; ee; ee; $
abbrev pub ranked_otherwise : Parts
ranked_otherwise =
    module_of
    (declaration 1 (declarator (ident (codes "$")) (number 1 (codes "1")) ∷ [])
    ∷ declaration 1 (declarator (ident (codes "ee")) (number 2 (codes "2")) ∷ [])
    ∷ statement (ident (codes "ee"))
    ∷ statement (ident (codes "ee"))
    ∷ statement (ident (codes "$"))
    ∷ [])

-- module: let e = 1; let $ = 2; $; $; e
abbrev pub ranked_by_reserved : Parts
ranked_by_reserved =
    module_of
    (declaration 1 (declarator (ident (codes "e")) (number 1 (codes "1")) ∷ [])
    ∷ declaration 1 (declarator (ident (codes "$")) (number 2 (codes "2")) ∷ [])
    ∷ statement (ident (codes "$"))
    ∷ statement (ident (codes "$"))
    ∷ statement (ident (codes "e"))
    ∷ [])

-- module: let slot_0 = 1; let slot_1 = 2; slot_1; slot_1; slot_0
abbrev pub ranked_readably : Parts
ranked_readably =
    module_of
    (declaration 1 (declarator (ident (codes "slot_0")) (number 1 (codes "1")) ∷ [])
    ∷ declaration 1 (declarator (ident (codes "slot_1")) (number 2 (codes "2")) ∷ [])
    ∷ statement (ident (codes "slot_1"))
    ∷ statement (ident (codes "slot_1"))
    ∷ statement (ident (codes "slot_0"))
    ∷ [])

-- module: let alpha = 1; let beta = 2
abbrev pub tied : Parts
tied =
    module_of
    (declaration 1 (declarator (ident (codes "alpha")) (number 1 (codes "1")) ∷ [])
    ∷ declaration 1 (declarator (ident (codes "beta")) (number 2 (codes "2")) ∷ [])
    ∷ [])

-- module: let $ = 1; let ee = 2
abbrev pub tied_mangled : Parts
tied_mangled =
    module_of
    (declaration 1 (declarator (ident (codes "$")) (number 1 (codes "1")) ∷ [])
    ∷ declaration 1 (declarator (ident (codes "ee")) (number 2 (codes "2")) ∷ [])
    ∷ [])

-- module: let e = 1; let x = 2; x
abbrev pub reserved_declared : Parts
reserved_declared =
    module_of
    (declaration 1 (declarator (ident (codes "e")) (number 1 (codes "1")) ∷ [])
    ∷ declaration 1 (declarator (ident (codes "x")) (number 2 (codes "2")) ∷ [])
    ∷ statement (ident (codes "x"))
    ∷ [])

-- module: let e = 1; let t = 2; t
abbrev pub reserved_declared_mangled : Parts
reserved_declared_mangled =
    module_of
    (declaration 1 (declarator (ident (codes "e")) (number 1 (codes "1")) ∷ [])
    ∷ declaration 1 (declarator (ident (codes "t")) (number 2 (codes "2")) ∷ [])
    ∷ statement (ident (codes "t"))
    ∷ [])

-- module: let t = 1; let n = 2; n
abbrev pub reserved_declared_renamed : Parts
reserved_declared_renamed =
    module_of
    (declaration 1 (declarator (ident (codes "t")) (number 1 (codes "1")) ∷ [])
    ∷ declaration 1 (declarator (ident (codes "n")) (number 2 (codes "2")) ∷ [])
    ∷ statement (ident (codes "n"))
    ∷ [])

-- module: let x = 1; x: { break x }
abbrev pub labels : Parts
labels =
    module_of
    (declaration 1 (declarator (ident (codes "x")) (number 1 (codes "1")) ∷ [])
    ∷ labeled (ident (codes "x")) (block (leave (ident (codes "x")) ∷ []))
    ∷ [])

-- module: let e = 1; x: { break x }
abbrev pub labels_mangled : Parts
labels_mangled =
    module_of
    (declaration 1 (declarator (ident (codes "e")) (number 1 (codes "1")) ∷ [])
    ∷ labeled (ident (codes "x")) (block (leave (ident (codes "x")) ∷ []))
    ∷ [])

-- module: let e = 1; e: { break e }
abbrev pub labels_renamed : Parts
labels_renamed =
    module_of
    (declaration 1 (declarator (ident (codes "e")) (number 1 (codes "1")) ∷ [])
    ∷ labeled (ident (codes "e")) (block (leave (ident (codes "e")) ∷ []))
    ∷ [])

-- module: switch (function (a) { return a }) { case 0: let x; x }
abbrev pub discriminant : Parts
discriminant =
    module_of
    (switch (function_expression null (ident (codes "a") ∷ []) (gives_back (ident (codes "a")) ∷ [])) (case (number 0 (codes "0")) (declaration 1 (declarator (ident (codes "x")) null ∷ []) ∷ statement (ident (codes "x")) ∷ []) ∷ [])
    ∷ [])

-- module: switch (function (e) { return e }) { case 0: let e; e }
abbrev pub discriminant_mangled : Parts
discriminant_mangled =
    module_of
    (switch (function_expression null (ident (codes "e") ∷ []) (gives_back (ident (codes "e")) ∷ [])) (case (number 0 (codes "0")) (declaration 1 (declarator (ident (codes "e")) null ∷ []) ∷ statement (ident (codes "e")) ∷ []) ∷ [])
    ∷ [])

-- module: switch (function (e) { return e }) { case 0: let t; t }
abbrev pub discriminant_by_two_names : Parts
discriminant_by_two_names =
    module_of
    (switch (function_expression null (ident (codes "e") ∷ []) (gives_back (ident (codes "e")) ∷ [])) (case (number 0 (codes "0")) (declaration 1 (declarator (ident (codes "t")) null ∷ []) ∷ statement (ident (codes "t")) ∷ []) ∷ [])
    ∷ [])

-- module: switch (0) { case 0: function f() {} f() } f
abbrev pub function_in_case : Parts
function_in_case =
    module_of
    (switch (number 0 (codes "0")) (case (number 0 (codes "0")) (function (ident (codes "f")) [] [] ∷ statement (call (ident (codes "f")) []) ∷ []) ∷ [])
    ∷ statement (ident (codes "f"))
    ∷ [])

-- module: switch (0) { case 0: function e() {} e() } f
abbrev pub function_in_case_mangled : Parts
function_in_case_mangled =
    module_of
    (switch (number 0 (codes "0")) (case (number 0 (codes "0")) (function (ident (codes "e")) [] [] ∷ statement (call (ident (codes "e")) []) ∷ []) ∷ [])
    ∷ statement (ident (codes "f"))
    ∷ [])

-- module: switch (0) { case 0: function e() {} e() } e
abbrev pub function_in_case_seen_behind : Parts
function_in_case_seen_behind =
    module_of
    (switch (number 0 (codes "0")) (case (number 0 (codes "0")) (function (ident (codes "e")) [] [] ∷ statement (call (ident (codes "e")) []) ∷ []) ∷ [])
    ∷ statement (ident (codes "e"))
    ∷ [])

-- module: { using x = g(); x } { await using y = g(); y }
abbrev pub using_declared : Parts
using_declared =
    module_of
    (block (declaration 3 (declarator (ident (codes "x")) (call (ident (codes "g")) []) ∷ []) ∷ statement (ident (codes "x")) ∷ [])
    ∷ block (declaration 4 (declarator (ident (codes "y")) (call (ident (codes "g")) []) ∷ []) ∷ statement (ident (codes "y")) ∷ [])
    ∷ [])

-- module: { using e = g(); e } { await using e = g(); e }
abbrev pub using_declared_mangled : Parts
using_declared_mangled =
    module_of
    (block (declaration 3 (declarator (ident (codes "e")) (call (ident (codes "g")) []) ∷ []) ∷ statement (ident (codes "e")) ∷ [])
    ∷ block (declaration 4 (declarator (ident (codes "e")) (call (ident (codes "g")) []) ∷ []) ∷ statement (ident (codes "e")) ∷ [])
    ∷ [])

-- module: try { f() } catch (error) { let a = error; a }
abbrev pub catch_parameter : Parts
catch_parameter =
    module_of
    (try_catch (statement (call (ident (codes "f")) []) ∷ []) (ident (codes "error")) (declaration 1 (declarator (ident (codes "a")) (ident (codes "error")) ∷ []) ∷ statement (ident (codes "a")) ∷ [])
    ∷ [])

-- module: try { f() } catch (e) { let t = e; t }
abbrev pub catch_parameter_mangled : Parts
catch_parameter_mangled =
    module_of
    (try_catch (statement (call (ident (codes "f")) []) ∷ []) (ident (codes "e")) (declaration 1 (declarator (ident (codes "t")) (ident (codes "e")) ∷ []) ∷ statement (ident (codes "t")) ∷ [])
    ∷ [])

-- module: try { f() } catch { let a = 1; a }
abbrev pub catch_without_parameter : Parts
catch_without_parameter =
    module_of
    (try_catch (statement (call (ident (codes "f")) []) ∷ []) null (declaration 1 (declarator (ident (codes "a")) (number 1 (codes "1")) ∷ []) ∷ statement (ident (codes "a")) ∷ [])
    ∷ [])

-- module: try { f() } catch { let e = 1; e }
abbrev pub catch_without_parameter_mangled : Parts
catch_without_parameter_mangled =
    module_of
    (try_catch (statement (call (ident (codes "f")) []) ∷ []) null (declaration 1 (declarator (ident (codes "e")) (number 1 (codes "1")) ∷ []) ∷ statement (ident (codes "e")) ∷ [])
    ∷ [])

-- module: try { f() } catch { let f = 1; f }
abbrev pub catch_without_parameter_by_global : Parts
catch_without_parameter_by_global =
    module_of
    (try_catch (statement (call (ident (codes "f")) []) ∷ []) null (declaration 1 (declarator (ident (codes "f")) (number 1 (codes "1")) ∷ []) ∷ statement (ident (codes "f")) ∷ [])
    ∷ [])

-- module: for (let a = 0; a;) { let b = a; b } a
abbrev pub for_head : Parts
for_head =
    module_of
    (for_loop (declaration 1 (declarator (ident (codes "a")) (number 0 (codes "0")) ∷ [])) (ident (codes "a")) null (block (declaration 1 (declarator (ident (codes "b")) (ident (codes "a")) ∷ []) ∷ statement (ident (codes "b")) ∷ []))
    ∷ statement (ident (codes "a"))
    ∷ [])

-- module: for (let e = 0; e;) { let t = e; t } a
abbrev pub for_head_mangled : Parts
for_head_mangled =
    module_of
    (for_loop (declaration 1 (declarator (ident (codes "e")) (number 0 (codes "0")) ∷ [])) (ident (codes "e")) null (block (declaration 1 (declarator (ident (codes "t")) (ident (codes "e")) ∷ []) ∷ statement (ident (codes "t")) ∷ []))
    ∷ statement (ident (codes "a"))
    ∷ [])

-- module: for (let e = 0; e;) { let e = e; e } a
abbrev pub for_head_by_one_name : Parts
for_head_by_one_name =
    module_of
    (for_loop (declaration 1 (declarator (ident (codes "e")) (number 0 (codes "0")) ∷ [])) (ident (codes "e")) null (block (declaration 1 (declarator (ident (codes "e")) (ident (codes "e")) ∷ []) ∷ statement (ident (codes "e")) ∷ []))
    ∷ statement (ident (codes "a"))
    ∷ [])

-- module: for (let e = 0; e;) { let t = e; t } e
abbrev pub for_head_seen_behind : Parts
for_head_seen_behind =
    module_of
    (for_loop (declaration 1 (declarator (ident (codes "e")) (number 0 (codes "0")) ∷ [])) (ident (codes "e")) null (block (declaration 1 (declarator (ident (codes "t")) (ident (codes "e")) ∷ []) ∷ statement (ident (codes "t")) ∷ []))
    ∷ statement (ident (codes "e"))
    ∷ [])

-- module: for (let a in o) a; a
abbrev pub for_in_head : Parts
for_in_head =
    module_of
    (for_in (declaration 1 (declarator (ident (codes "a")) null ∷ [])) (ident (codes "o")) (statement (ident (codes "a")))
    ∷ statement (ident (codes "a"))
    ∷ [])

-- module: for (let e in o) e; a
abbrev pub for_in_head_mangled : Parts
for_in_head_mangled =
    module_of
    (for_in (declaration 1 (declarator (ident (codes "e")) null ∷ [])) (ident (codes "o")) (statement (ident (codes "e")))
    ∷ statement (ident (codes "a"))
    ∷ [])

-- module: for (let e in o) a; a
abbrev pub for_in_head_unseen : Parts
for_in_head_unseen =
    module_of
    (for_in (declaration 1 (declarator (ident (codes "e")) null ∷ [])) (ident (codes "o")) (statement (ident (codes "a")))
    ∷ statement (ident (codes "a"))
    ∷ [])

-- module: for (let a of a) a
abbrev pub for_of_head : Parts
for_of_head =
    module_of
    (for_of (declaration 1 (declarator (ident (codes "a")) null ∷ [])) (ident (codes "a")) (statement (ident (codes "a")))
    ∷ [])

-- module: for (let e of e) e
abbrev pub for_of_head_mangled : Parts
for_of_head_mangled =
    module_of
    (for_of (declaration 1 (declarator (ident (codes "e")) null ∷ [])) (ident (codes "e")) (statement (ident (codes "e")))
    ∷ [])

-- module: for (let e of a) e
abbrev pub for_of_head_unseen : Parts
for_of_head_unseen =
    module_of
    (for_of (declaration 1 (declarator (ident (codes "e")) null ∷ [])) (ident (codes "a")) (statement (ident (codes "e")))
    ∷ [])
