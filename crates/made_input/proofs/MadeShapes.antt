-- What is read from the made text is the made tree.
use Rattle.std.proofs.Common.{◌≡◌, ℕ, zero, suc, ◌+◌, ◌≤◌, Bool, true, false, codes, if◌then◌else◌, Option, Some, None, option_and_then, option_map, refl, ap, ap₂, ◌∙◌, arith}
use Rattle.std.specs.Str.{chars}
use Rattle.json_text.specs.Json.{Json, Members, object, string}
use Rattle.json_text.specs.Units.{units_of}
use Rattle.serde_json.specs.Data as parsed
use Rattle.serde_json.specs.Data.{Data}
use Rattle.tree_core.proofs.AsciiTexts.{text_of_ascii}
use Rattle.tree_core.specs.JsonOf.{items_of, json_of, members_of}
use Rattle.tree_core.specs.Readable.{is_ascii}
use Rattle.tree_core.specs.Reading.{are_distinct, find_member, is_paired, items_from, name_part, offset_of, one, only_known, part_in, row_for, run_of, shape_from, shape_of, text_in, tree_of, word_number}
use Rattle.tree_nodes.proofs.RowNames.{row_kind, row_named-name}
use Rattle.tree_nodes.specs.Along.{all}
use Rattle.tree_nodes.specs.Look.{onto}
use Rattle.tree_nodes.specs.Standing.{is_placed, stands}
use Rattle.tree_nodes.specs.Table.{Column, Row, inner, node, row, row_named, word_list}
use Rattle.tree_nodes.specs.Tree.{Parts, Text, Tree, alone, atom, before, done, empty, flag, many, text, word}
use Rattle.tree_nodes.specs.declared.kind.Kind.{Kind}
use Rattle.tree_nodes.specs.declared.kind.Kind.TheVariants.{BlockStatement, CallExpression, FunctionDeclaration, Identifier, Program, ReturnStatement}
use Rattle.tree_nodes.specs.declared.table.Class.TheVariants.{Many}
use Rattle.tree_nodes.specs.declared.table.Group.TheVariants.{ModuleItems}
use Rattle.tree_nodes.specs.declared.table.Role.{Role}
use Rattle.tree_nodes.specs.declared.table.Words.TheVariants.{SourceTypes}
use Rattle.tree_places.specs.Open.{all_open}
use Rattle.made_input.proofs.MadeNames.{name_read, parameter_read}
use Rattle.made_input.proofs.MadeReading.{block_data, block_entries, call_data, call_entries, declaration_entries, function_data, functions_data, name_data, name_entries, program_data, return_data, return_entries}
use Rattle.made_input.specs.Made.{call, function_fields, function_name, functions, identifier, made_tree, parameter, returned}

-- ---- a node that starts and ends at 0, by its members

abbrev at_nought : Kind → Parts → Tree
at_nought k fields = record { kind = k; start = 0; stop = 0; fields = fields }

-- the members name the kind and both offsets, and no others than the fields of its row
record IsNode (k : Kind) (ms : Members) : Type 0 where
  ascii : is_ascii (row k).name ≡ true
  named : find_member (codes "type") ms ≡ Some (string (row k).name)
  starts : offset_of (find_member (codes "start") ms) ≡ Some 0
  ends : offset_of (find_member (codes "end") ms) ≡ Some 0
  distinct : are_distinct ms ≡ true
  known : only_known (row k).columns ms ≡ true
  paired : is_paired (row k).kind ms ≡ true

shape_by : (ms : Members) (part : Column → Option Parts) (r : Row) (ps : Parts) → row_for ms ≡ Some r
    → offset_of (find_member (codes "start") ms) ≡ Some 0 → offset_of (find_member (codes "end") ms) ≡ Some 0
    → are_distinct ms ≡ true → only_known r.columns ms ≡ true → is_paired r.kind ms ≡ true
    → run_of part r.columns ≡ Some ps → shape_from ms part ≡ Some (at_nought r.kind ps)
shape_by ms part r ps row starts ends distinct known paired run = rw (row, starts, ends, distinct, known, paired, run) refl

node_shape : (k : Kind) (ms : Members) (ps : Parts) → IsNode k ms → run_of (λ c. part_in ms c) (row k).columns ≡ Some ps
    → shape_of (object ms) ≡ Some (at_nought k ps)
node_shape k ms ps h run =
    let found : row_for ms ≡ Some (row k) =
    ap (λ (o : Option Json). option_and_then row_named (option_and_then text_in o)) h.named
    ∙ ap (option_and_then row_named) (text_of_ascii (row k).name h.ascii) ∙ row_named-name k in
    shape_by ms (λ c. part_in ms c) (row k) ps found h.starts h.ends h.distinct h.known h.paired run
    ∙ ap (λ (x : Kind). Some (at_nought x ps)) (row_kind k)

-- a field, and those after it
abbrev then_fields : Option Parts → Option Parts → Option Parts
then_fields p more = option_and_then (λ (q : Parts). option_map (onto q) more) p

abbrev no_fields : Option Parts
no_fields = Some done

-- a list of this node alone
abbrev one_item : Option Tree → Option Parts
one_item t = option_map (λ (us : Parts). many us done) (then_fields (option_map alone t) no_fields)

-- ---- kind by kind, by the nodes within

name_shape : (x : Text) → name_part (string (units_of x)) ≡ Some (one (text x)) → shape_of (json_of (name_data x)) ≡ Some (at_nought Identifier (atom (text x) done))
unfolding chars
name_shape x h =
    node_shape Identifier (members_of (name_entries x)) (atom (text x) done)
    (record { ascii = refl; named = refl; starts = refl; ends = refl; distinct = refl; known = refl; paired = refl })
    (ap (λ (p : Option Parts). then_fields p no_fields) h)

call_shape : (callee argument : Data) (t u : Tree) → shape_of (json_of callee) ≡ Some t → shape_of (json_of argument) ≡ Some u
    → shape_of (json_of (parsed.object (call_entries callee argument))) ≡ Some (at_nought CallExpression (before t (many (alone u) (atom (flag false) done))))
unfolding chars
call_shape callee argument t u h i =
    node_shape CallExpression (members_of (call_entries callee argument)) (before t (many (alone u) (atom (flag false) done)))
    (record { ascii = refl; named = refl; starts = refl; ends = refl; distinct = refl; known = refl; paired = refl })
    (ap₂ (λ (a b : Option Tree). then_fields (option_map alone a) (then_fields (one_item b) (then_fields (Some (one (flag false))) no_fields))) h i)

return_shape : (ms : parsed.Members) (t : Tree) → shape_of (json_of (parsed.object ms)) ≡ Some t
    → shape_of (json_of (parsed.object (return_entries (parsed.object ms)))) ≡ Some (at_nought ReturnStatement (alone t))
unfolding chars
return_shape ms t h =
    node_shape ReturnStatement (members_of (return_entries (parsed.object ms))) (alone t)
    (record { ascii = refl; named = refl; starts = refl; ends = refl; distinct = refl; known = refl; paired = refl })
    (ap (λ (a : Option Tree). then_fields (option_map alone a) no_fields) h)

block_shape : (statement : Data) (t : Tree) → shape_of (json_of statement) ≡ Some t
    → shape_of (json_of (parsed.object (block_entries statement))) ≡ Some (at_nought BlockStatement (many (alone t) done))
unfolding chars
block_shape statement t h =
    node_shape BlockStatement (members_of (block_entries statement)) (many (alone t) done)
    (record { ascii = refl; named = refl; starts = refl; ends = refl; distinct = refl; known = refl; paired = refl })
    (ap (λ (a : Option Tree). then_fields (one_item a) no_fields) h)

-- three nodes that are read
abbrev declaration_fields : (name parameter body : Option Tree) → Option Parts
declaration_fields name parameter body =
    then_fields (option_map alone name) (then_fields (Some (one (flag false))) (then_fields (Some (one (flag false)))
    (then_fields (one_item parameter) (then_fields (option_map alone body) (then_fields (Some (one (flag false))) no_fields)))))

declaration_shape : (ms : parsed.Members) (parameter body : Data) (t u v : Tree) → shape_of (json_of (parsed.object ms)) ≡ Some t
    → shape_of (json_of parameter) ≡ Some u → shape_of (json_of body) ≡ Some v
    → shape_of (json_of (parsed.object (declaration_entries (parsed.object ms) parameter body)))
    ≡ Some (at_nought FunctionDeclaration (before t (atom (flag false) (atom (flag false) (many (alone u) (before v (atom (flag false) done)))))))
unfolding chars
declaration_shape ms parameter body t u v h i j =
    node_shape FunctionDeclaration (members_of (declaration_entries (parsed.object ms) parameter body))
    (before t (atom (flag false) (atom (flag false) (many (alone u) (before v (atom (flag false) done))))))
    (record { ascii = refl; named = refl; starts = refl; ends = refl; distinct = refl; known = refl; paired = refl })
    (ap₂ (λ (a b : Option Tree). declaration_fields a b (shape_of (json_of body))) h i ∙ ap (declaration_fields (Some t) (Some u)) j)

-- ---- the made functions

function_shape : (k : ℕ) → k ≤ 2000 → shape_of (json_of (function_data (function_name k))) ≡ Some (at_nought FunctionDeclaration (function_fields (function_name k)))
function_shape k h =
    let x : Text = function_name k in
    let named : Tree = at_nought Identifier (atom (text x) done) in
    let taken : Tree = at_nought Identifier (atom (text parameter) done) in
    let called : Tree = at_nought CallExpression (identifier x (many (identifier parameter done) (atom (flag false) done))) in
    let answered : Tree = at_nought ReturnStatement (call x) in
    let body : Tree = at_nought BlockStatement (many (returned x) done) in
    let name_is : shape_of (json_of (name_data x)) ≡ Some named = name_shape x (name_read k h) in
    let parameter_is : shape_of (json_of (name_data parameter)) ≡ Some taken = name_shape parameter parameter_read in
    let call_is : shape_of (json_of (call_data x)) ≡ Some called = call_shape (name_data x) (name_data parameter) named taken name_is parameter_is in
    let return_is : shape_of (json_of (return_data x)) ≡ Some answered = return_shape (call_entries (name_data x) (name_data parameter)) called call_is in
    let body_is : shape_of (json_of (block_data x)) ≡ Some body = block_shape (return_data x) answered return_is in
    declaration_shape (name_entries x) (name_data parameter) (block_data x) named taken body name_is parameter_is body_is

functions_shape : (k n : ℕ) → k + n ≤ 2000 → items_from (items_of (functions_data k n)) false ≡ Some (functions k n)
functions_shape k zero h = refl
functions_shape k (suc n) h =
    ap₂ (λ (a : Option Tree) (b : Option Parts). then_fields (option_map alone a) b) (function_shape k (omega (arith, h))) (functions_shape (suc k) n (omega (arith, h)))

-- ---- the program

program_shape : (functions : parsed.Items) (ps : Parts) → items_from (items_of functions) false ≡ Some ps
    → shape_of (json_of (parsed.object (program_data functions))) ≡ Some (at_nought Program (many ps (atom (word 1) (atom empty done))))
unfolding chars
program_shape functions ps h =
    node_shape Program (members_of (program_data functions)) (many ps (atom (word 1) (atom empty done)))
    (record { ascii = refl; named = refl; starts = refl; ends = refl; distinct = refl; known = refl; paired = refl })
    (ap₂ (λ (a : Option Parts) (b : Option Text). then_fields (option_map (λ (us : Parts). many us done) a)
    (then_fields (option_map (λ (n : ℕ). one (word n)) (option_and_then (word_number (word_list SourceTypes)) b)) (then_fields (Some (one empty)) no_fields)))
    h (text_of_ascii (codes "module") refl))

-- the column in which the items of a program's body stand
abbrev body_column : Column
body_column = inner (node (codes "body") (Many (ModuleItems 1)))

functions_placed : (k n : ℕ) (own : Role) (within : Parts) → stands (functions k n) (all body_column) own within ≡ true
unfolding all_open
functions_placed k zero own within = refl
functions_placed k (suc n) own within = functions_placed (suc k) n own within

placed : (n : ℕ) → is_placed (made_tree n) ≡ true
unfolding all_open made_tree
placed n = rw (functions_placed 0 n) refl

pub text_is_tree : (n : ℕ) → n ≤ 2000 → tree_of (json_of (parsed.object (program_data (functions_data 0 n)))) ≡ Some (made_tree n)
unfolding tree_of made_tree
text_is_tree n h =
    ap (option_and_then (λ (t : Tree). if is_placed t then Some t else None)) (program_shape (functions_data 0 n) (functions 0 n) (functions_shape 0 n (omega (arith, h))))
    ∙ ap (λ (b : Bool). if b then Some (made_tree n) else None) (placed n)
