-- What `serde_json` reads from the made text: the same values, each object's members by rising key.
use Rattle.std.proofs.Common.{◌≡◌, ℕ, zero, suc, ◌≤◌, List, false, codes, Option, Some, option_and_then, option_map, refl, ap, ap₂, ◌∙◌}
use Rattle.json.specs.Json as json
use Rattle.serde_json.specs.Data.{Data, null, boolean, number, unsigned, string, array, object, Items, no_items, item, Members, no_members, member, put}
use Rattle.serde_json.specs.Read.{of_items, of_json, of_members, read}
use Rattle.made_input.proofs.MadeValues.{block_members, call_members, function_members, function_value, function_values, name_members, name_value, parameters, program_members, program_plain, program_shallow, program_value, return_members, text_told}
use Rattle.made_input.proofs.PlainReading.{nought_read, plain_text_reads}
use Rattle.made_input.proofs.PlainTexts.{raw, raw_items, raw_members}
use Rattle.made_input.specs.Made.{function_name, made_text, parameter}
use Rattle.json_text.specs.Json as text
use Rattle.tree_core.specs.Values.{node_value}
use Rattle.tree_nodes.specs.Table.{row}
use Rattle.tree_nodes.specs.declared.kind.Kind.{Kind}
use Rattle.tree_nodes.specs.declared.kind.Kind.TheVariants.{BlockStatement, CallExpression, FunctionDeclaration, Identifier, Program, ReturnStatement}

abbrev pub nought : Data
nought = number (unsigned 0)

-- ---- the members of each node, where what stands within it is given

abbrev pub name_entries : List ℕ → Members
name_entries x = member (codes "end") nought (member (codes "name") (string x) (member (codes "start") nought (member (codes "type") (string (codes "Identifier")) no_members)))

abbrev pub call_entries : (callee argument : Data) → Members
call_entries callee argument =
    member (codes "arguments") (array (item argument no_items)) (member (codes "callee") callee (member (codes "end") nought
    (member (codes "optional") (boolean false) (member (codes "start") nought (member (codes "type") (string (codes "CallExpression")) no_members)))))

abbrev pub return_entries : (returned : Data) → Members
return_entries returned =
    member (codes "argument") returned (member (codes "end") nought (member (codes "start") nought (member (codes "type") (string (codes "ReturnStatement")) no_members)))

abbrev pub block_entries : (statement : Data) → Members
block_entries statement =
    member (codes "body") (array (item statement no_items)) (member (codes "end") nought (member (codes "start") nought (member (codes "type") (string (codes "BlockStatement")) no_members)))

abbrev pub declaration_entries : (name parameter body : Data) → Members
declaration_entries name parameter body =
    member (codes "async") (boolean false) (member (codes "body") body (member (codes "end") nought (member (codes "expression") (boolean false)
    (member (codes "generator") (boolean false) (member (codes "id") name (member (codes "params") (array (item parameter no_items))
    (member (codes "start") nought (member (codes "type") (string (codes "FunctionDeclaration")) no_members))))))))

-- ---- the whole, where a function's name is x

abbrev pub name_data : List ℕ → Data
name_data x = object (name_entries x)

abbrev pub call_data : List ℕ → Data
call_data x = object (call_entries (name_data x) (name_data parameter))

abbrev pub return_data : List ℕ → Data
return_data x = object (return_entries (call_data x))

abbrev pub block_data : List ℕ → Data
block_data x = object (block_entries (return_data x))

abbrev pub function_data : List ℕ → Data
function_data x = object (declaration_entries (name_data x) (name_data parameter) (block_data x))

abbrev pub functions_data : (k n : ℕ) → Items
functions_data k zero = no_items
functions_data k (suc n) = item (function_data (function_name k)) (functions_data (suc k) n)

abbrev pub program_data : (functions : Items) → Members
program_data functions =
    member (codes "body") (array functions) (member (codes "end") nought (member (codes "hashbang") null (member (codes "sourceType") (string (codes "module"))
    (member (codes "start") nought (member (codes "type") (string (codes "Program")) no_members)))))

-- ---- member by member

-- the members of a node that are read before its fields
abbrev head_data : Kind → Members
head_data k = member (codes "end") nought (member (codes "start") nought (member (codes "type") (string (row k).name) no_members))

node_read : (k : Kind) (fields : text.Members) → of_json (raw (node_value k 0 0 fields)) ≡ option_map object (of_members (raw_members fields) (head_data k))
node_read k fields =
    ap₂ (λ (a b : Option Data). option_map object (option_and_then (λ (d : Data). option_and_then (λ (e : Data).
    of_members (raw_members fields) (put (codes "end") e (put (codes "start") d (member (codes "type") (string (row k).name) no_members)))) b) a)) nought_read nought_read

member_read : (k : List ℕ) (j : json.Json) (d : Data) (more : json.Members) (found : Members) → of_json j ≡ Some d
    → of_members (json.member k j more) found ≡ of_members more (put k d found)
member_read k j d more found e = ap (option_and_then (λ (x : Data). of_members more (put k x found))) e

list_read : (j : json.Json) (d : Data) → of_json j ≡ Some d → of_json (json.array (json.item j json.no_items)) ≡ Some (array (item d no_items))
list_read j d e = ap (λ (o : Option Data). option_map array (option_and_then (λ (x : Data). option_map (item x) (Some no_items)) o)) e

-- ---- node by node

name_read : (x : List ℕ) → of_json (raw (name_value x)) ≡ Some (name_data x)
name_read x = node_read Identifier (name_members x)

parameters_read : of_json (raw parameters) ≡ Some (array (item (name_data parameter) no_items))
parameters_read = list_read (raw (name_value parameter)) (name_data parameter) (name_read parameter)

call_read : (x : List ℕ) → of_json (raw (node_value CallExpression 0 0 (call_members x))) ≡ Some (call_data x)
call_read x =
    let optional : json.Members = json.member (codes "optional") (json.boolean false) json.no_members in
    let rest : json.Members = json.member (codes "arguments") (raw parameters) optional in
    let found : Members = put (codes "callee") (name_data x) (head_data CallExpression) in
    node_read CallExpression (call_members x)
    ∙ ap (option_map object) (member_read (codes "callee") (raw (name_value x)) (name_data x) rest (head_data CallExpression) (name_read x)
    ∙ member_read (codes "arguments") (raw parameters) (array (item (name_data parameter) no_items)) optional found parameters_read)

return_read : (x : List ℕ) → of_json (raw (node_value ReturnStatement 0 0 (return_members x))) ≡ Some (return_data x)
return_read x =
    node_read ReturnStatement (return_members x)
    ∙ ap (option_map object) (member_read (codes "argument") (raw (node_value CallExpression 0 0 (call_members x))) (call_data x) json.no_members (head_data ReturnStatement) (call_read x))

block_read : (x : List ℕ) → of_json (raw (node_value BlockStatement 0 0 (block_members x))) ≡ Some (block_data x)
block_read x =
    let statement : json.Json = raw (node_value ReturnStatement 0 0 (return_members x)) in
    let returned : Data = return_data x in
    node_read BlockStatement (block_members x)
    ∙ ap (option_map object) (member_read (codes "body") (json.array (json.item statement json.no_items)) (array (item returned no_items)) json.no_members (head_data BlockStatement) (list_read statement returned (return_read x)))

function_read : (x : List ℕ) → of_json (raw (function_value x)) ≡ Some (function_data x)
function_read x =
    let body : json.Json = raw (node_value BlockStatement 0 0 (block_members x)) in
    let body_data : Data = block_data x in
    let last : json.Members = json.member (codes "expression") (json.boolean false) json.no_members in
    let with_body : json.Members = json.member (codes "body") body last in
    let with_params : json.Members = json.member (codes "params") (raw parameters) with_body in
    let flags : json.Members = json.member (codes "generator") (json.boolean false) (json.member (codes "async") (json.boolean false) with_params) in
    let named : Members = put (codes "id") (name_data x) (head_data FunctionDeclaration) in
    let flagged : Members = put (codes "async") (boolean false) (put (codes "generator") (boolean false) named) in
    let taken : Members = put (codes "params") (array (item (name_data parameter) no_items)) flagged in
    node_read FunctionDeclaration (function_members x)
    ∙ ap (option_map object) (member_read (codes "id") (raw (name_value x)) (name_data x) flags (head_data FunctionDeclaration) (name_read x)
    ∙ member_read (codes "params") (raw parameters) (array (item (name_data parameter) no_items)) with_body flagged parameters_read
    ∙ member_read (codes "body") body body_data last taken (block_read x))

functions_read : (k n : ℕ) → of_items (raw_items (function_values k n)) ≡ Some (functions_data k n)
functions_read k zero = refl
functions_read k (suc n) =
    ap (option_and_then (λ (d : Data). option_map (item d) (of_items (raw_items (function_values (suc k) n))))) (function_read (function_name k))
    ∙ ap (option_map (item (function_data (function_name k)))) (functions_read (suc k) n)

program_read : (n : ℕ) → of_json (raw (program_value (function_values 0 n))) ≡ Some (object (program_data (functions_data 0 n)))
program_read n =
    let functions : json.Json = json.array (raw_items (function_values 0 n)) in
    let rest : json.Members = json.member (codes "sourceType") (json.string (codes "module")) (json.member (codes "hashbang") json.null json.no_members) in
    node_read Program (program_members (function_values 0 n))
    ∙ ap (option_map object) (member_read (codes "body") functions (array (functions_data 0 n)) rest (head_data Program) (ap (option_map array) (functions_read 0 n)))

pub text_read : (n : ℕ) → n ≤ 2000 → read (made_text n) ≡ Some (object (program_data (functions_data 0 n)))
text_read n h =
    ap read (text_told n h) ∙ plain_text_reads (program_value (function_values 0 n)) (program_plain n h) (program_shallow n) ∙ program_read n
