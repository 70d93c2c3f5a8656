-- The value of the made tree, as this project prints it.
use Rattle.std.proofs.Common.{◌≡◌, ℕ, zero, suc, ◌+◌, ◌≤◌, List, true, false, codes, refl, ap, ap₂, arith}
use Rattle.std.specs.Str.{chars}
use Rattle.json.specs.Tree.{depth, items_depth}
use Rattle.json_text.proofs.Units.{units_of-IsAscii}
use Rattle.json_text.specs.Json.{Json, null, truth, string, list, Items, no_items, item, Members, no_members, member}
use Rattle.json_text.specs.Layout.{compact}
use Rattle.json_text.specs.Text.{text_of}
use Rattle.tree_core.specs.Values.{items_value, node_value}
use Rattle.tree_nodes.specs.declared.kind.Kind.TheVariants.{BlockStatement, CallExpression, FunctionDeclaration, Identifier, Program, ReturnStatement}
use Rattle.made_input.proofs.MadeNames.{name_plain}
use Rattle.made_input.proofs.PlainTexts.{IsAscii-plain, are_plain, is_plain, is_plain_text, raw, raw_items}
use Rattle.made_input.specs.Made.{function_name, functions, made_text, made_tree, parameter}

-- ---- the members of each node, where a function's name is x

abbrev pub name_members : List ℕ → Members
name_members x = member (codes "name") (string x) no_members

abbrev pub name_value : List ℕ → Json
name_value x = node_value Identifier 0 0 (name_members x)

abbrev pub parameters : Json
parameters = list (item (name_value parameter) no_items)

abbrev pub call_members : List ℕ → Members
call_members x = member (codes "callee") (name_value x) (member (codes "arguments") parameters (member (codes "optional") (truth false) no_members))

abbrev pub return_members : List ℕ → Members
return_members x = member (codes "argument") (node_value CallExpression 0 0 (call_members x)) no_members

abbrev pub block_members : List ℕ → Members
block_members x = member (codes "body") (list (item (node_value ReturnStatement 0 0 (return_members x)) no_items)) no_members

abbrev pub function_members : List ℕ → Members
function_members x =
    member (codes "id") (name_value x) (member (codes "generator") (truth false) (member (codes "async") (truth false) (member (codes "params") parameters
    (member (codes "body") (node_value BlockStatement 0 0 (block_members x)) (member (codes "expression") (truth false) no_members)))))

abbrev pub function_value : List ℕ → Json
function_value x = node_value FunctionDeclaration 0 0 (function_members x)

abbrev pub function_values : (k n : ℕ) → Items
function_values k zero = no_items
function_values k (suc n) = item (function_value (function_name k)) (function_values (suc k) n)

-- of a program with these functions
abbrev pub program_members : Items → Members
program_members functions = member (codes "body") (list functions) (member (codes "sourceType") (string (codes "module")) (member (codes "hashbang") null no_members))

abbrev pub program_value : Items → Json
program_value functions = node_value Program 0 0 (program_members functions)

-- ---- the value of the made tree is this

function_values_told : (k n : ℕ) → k + n ≤ 2000 → items_value (functions k n) ≡ function_values k n
unfolding chars
function_values_told k zero h = refl
function_values_told k (suc n) h =
    ap₂ item (ap function_value (units_of-IsAscii (function_name k) (IsAscii-plain (function_name k) (name_plain k (omega (arith, h))))))
    (function_values_told (suc k) n (omega (arith, h)))

pub text_told : (n : ℕ) → n ≤ 2000 → made_text n ≡ text_of compact (program_value (function_values 0 n))
unfolding made_text made_tree
text_told n h = ap (λ (xs : Items). text_of compact (program_value xs)) (function_values_told 0 n (omega (arith, h)))

-- ---- it is plain, and nests eight deep

function_plain : (x : List ℕ) → is_plain_text x ≡ true → is_plain (function_value x) ≡ true
function_plain x h = rw h refl

functions_plain : (k n : ℕ) → k + n ≤ 2000 → are_plain (function_values k n) ≡ true
functions_plain k zero h = refl
functions_plain k (suc n) h = rw (function_plain (function_name k) (name_plain k (omega (arith, h)))) (functions_plain (suc k) n (omega (arith, h)))

pub program_plain : (n : ℕ) → n ≤ 2000 → is_plain (program_value (function_values 0 n)) ≡ true
program_plain n h = rw (functions_plain 0 n (omega (arith, h))) refl

functions_shallow : (k n : ℕ) → items_depth (raw_items (function_values k n)) ≤ 10
functions_shallow k zero = omega arith
functions_shallow k (suc n) = omega (arith, functions_shallow (suc k) n)

pub program_shallow : (n : ℕ) → depth (raw (program_value (function_values 0 n))) ≤ 127
program_shallow n = omega (arith, functions_shallow 0 n)
