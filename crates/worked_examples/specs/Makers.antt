-- Makers of small trees, all of whose spans are 0. The trees of this crate are made with them from JavaScript by tools/worked_examples.py; what a node's fields are is said by the node table alone.
use Rattle.std.specs.Prelude.{ℕ, true, false, List, [], ◌∷◌}
use Rattle.tree_nodes.specs.Tree.{Parts, Text, atom, child, done, empty, flag, many, text, units, whole, word as word_of}
use Rattle.tree_nodes.specs.declared.kind.Kind.{Kind}
use Rattle.tree_nodes.specs.declared.kind.Kind.TheVariants.{ArrayExpression, ArrayPattern, ArrowFunctionExpression, AssignmentExpression, AssignmentPattern, BlockStatement, BreakStatement, CallExpression, CatchClause, ChainExpression, ClassBody, ClassDeclaration, ClassExpression, ExportAllDeclaration, ExportNamedDeclaration, ExportSpecifier, ExpressionStatement, ForInStatement, ForOfStatement, ForStatement, FunctionDeclaration, FunctionExpression, Identifier, ImportAttribute, ImportDeclaration, ImportSpecifier, LabeledStatement, Literal, MemberExpression, MetaProperty, MethodDefinition, ObjectExpression, ObjectPattern, PrivateIdentifier, Program, Property, PropertyDefinition, RestElement, ReturnStatement, StaticBlock, SwitchCase, SwitchStatement, ThisExpression, TryStatement, VariableDeclaration, VariableDeclarator, WithStatement}

-- a field, or an item of a list: it puts itself before the fields or items that follow
abbrev pub Piece : Type 0
Piece = Parts → Parts

abbrev pub run : List Piece → Parts
run [] = done
run (p ∷ ps) = p (run ps)

abbrev pub null : Piece
null = atom empty

abbrev pub on : Piece
on = atom (flag true)

abbrev pub off : Piece
off = atom (flag false)

abbrev pub word : ℕ → Piece
word k = atom (word_of k)

abbrev pub list : List Piece → Piece
list items = many (run items)

abbrev pub node : Kind → List Piece → Piece
node kind fields = child kind 0 0 (run fields)

-- ---- names and literals

abbrev pub ident : Text → Piece
ident name = node Identifier (atom (text name) ∷ [])

abbrev pub private : Text → Piece
private name = node PrivateIdentifier (atom (text name) ∷ [])

-- by its value and as it is written
abbrev pub number : ℕ → Text → Piece
number value raw = node Literal (atom (whole value) ∷ atom (text raw) ∷ null ∷ null ∷ null ∷ [])

abbrev pub string : Text → Text → Piece
string value raw = node Literal (atom (units value) ∷ atom (text raw) ∷ null ∷ null ∷ null ∷ [])

-- ---- patterns

abbrev pub default_at : (pattern value : Piece) → Piece
default_at pattern value = node AssignmentPattern (pattern ∷ value ∷ [])

abbrev pub rest : Piece → Piece
rest pattern = node RestElement (pattern ∷ [])

abbrev pub array_pattern : List Piece → Piece
array_pattern elements = node ArrayPattern (list elements ∷ [])

abbrev pub object_pattern : List Piece → Piece
object_pattern properties = node ObjectPattern (list properties ∷ [])

-- `key: value`, and the same with a shorthand mark, which is to stand for `value`
abbrev pub property : (key value : Piece) → Piece
property key value = node Property (word 0 ∷ key ∷ value ∷ off ∷ off ∷ off ∷ [])

abbrev pub shorthand : (key value : Piece) → Piece
shorthand key value = node Property (word 0 ∷ key ∷ value ∷ off ∷ on ∷ off ∷ [])

-- ---- functions and classes: a name or null, parameters, body; a name or null, what is extended or null, members

abbrev pub body : List Piece → Piece
body statements = node BlockStatement (list statements ∷ [])

abbrev pub function : Piece → List Piece → List Piece → Piece
function name params statements = node FunctionDeclaration (name ∷ off ∷ off ∷ list params ∷ body statements ∷ off ∷ [])

abbrev pub async_function : Piece → List Piece → List Piece → Piece
async_function name params statements = node FunctionDeclaration (name ∷ off ∷ on ∷ list params ∷ body statements ∷ off ∷ [])

abbrev pub function_expression : Piece → List Piece → List Piece → Piece
function_expression name params statements = node FunctionExpression (name ∷ off ∷ off ∷ list params ∷ body statements ∷ off ∷ [])

abbrev pub arrow : List Piece → Piece → Piece
arrow params value = node ArrowFunctionExpression (on ∷ off ∷ list params ∷ value ∷ [])

abbrev pub arrow_with_body : List Piece → List Piece → Piece
arrow_with_body params statements = node ArrowFunctionExpression (off ∷ off ∷ list params ∷ body statements ∷ [])

abbrev pub members : List Piece → Piece
members items = node ClassBody (list items ∷ [])

abbrev pub class : Piece → Piece → List Piece → Piece
class name heritage items = node ClassDeclaration (name ∷ heritage ∷ members items ∷ [])

abbrev pub class_expression : Piece → Piece → List Piece → Piece
class_expression name heritage items = node ClassExpression (name ∷ heritage ∷ members items ∷ [])

abbrev pub field : Piece → Piece
field key = node PropertyDefinition (key ∷ null ∷ off ∷ off ∷ [])

abbrev pub computed_field : Piece → Piece
computed_field key = node PropertyDefinition (key ∷ null ∷ on ∷ off ∷ [])

abbrev pub computed_method : Piece → List Piece → List Piece → Piece
computed_method key params statements = node MethodDefinition (key ∷ function_expression null params statements ∷ word 1 ∷ on ∷ off ∷ [])

abbrev pub static_block : List Piece → Piece
static_block statements = node StaticBlock (list statements ∷ [])

-- a method of this kind, static or not: a method is 1, a getter 2, a setter 3
abbrev pub method : ℕ → Piece → Piece → List Piece → List Piece → Piece
method kind static key params statements = node MethodDefinition (key ∷ function_expression null params statements ∷ word kind ∷ off ∷ static ∷ [])

-- ---- expressions

abbrev pub this : Piece
this = node ThisExpression []

abbrev pub object : List Piece → Piece
object properties = node ObjectExpression (list properties ∷ [])

abbrev pub array : List Piece → Piece
array elements = node ArrayExpression (list elements ∷ [])

abbrev pub call : Piece → List Piece → Piece
call callee arguments = node CallExpression (callee ∷ list arguments ∷ off ∷ [])

abbrev pub optional_call : Piece → List Piece → Piece
optional_call callee arguments = node ChainExpression (node CallExpression (callee ∷ list arguments ∷ on ∷ []) ∷ [])

abbrev pub member : Piece → Piece → Piece
member of property = node MemberExpression (of ∷ property ∷ off ∷ off ∷ [])

abbrev pub meta_property : (meta property : Piece) → Piece
meta_property meta property = node MetaProperty (meta ∷ property ∷ [])

-- by the number of its operator: `=` is 0, `+=` 1, `||=` 13
abbrev pub assignment : ℕ → (left right : Piece) → Piece
assignment operator left right = node AssignmentExpression (word operator ∷ left ∷ right ∷ [])

-- ---- statements

abbrev pub statement : Piece → Piece
statement expression = node ExpressionStatement (expression ∷ null ∷ [])

abbrev pub directive : Text → Text → Piece
directive value raw = node ExpressionStatement (string value raw ∷ atom (text value) ∷ [])

-- by the number of its kind: `var` is 0, `let` 1, `const` 2, `using` 3, `await using` 4
abbrev pub declaration : ℕ → List Piece → Piece
declaration kind declarators = node VariableDeclaration (word kind ∷ list declarators ∷ [])

abbrev pub declarator : (pattern value : Piece) → Piece
declarator pattern value = node VariableDeclarator (pattern ∷ value ∷ [])

abbrev pub block : List Piece → Piece
block statements = node BlockStatement (list statements ∷ [])

abbrev pub gives_back : Piece → Piece
gives_back value = node ReturnStatement (value ∷ [])

abbrev pub labeled : (label statement : Piece) → Piece
labeled label statement = node LabeledStatement (label ∷ statement ∷ [])

abbrev pub leave : Piece → Piece
leave label = node BreakStatement (label ∷ [])

abbrev pub try_catch : List Piece → Piece → List Piece → Piece
try_catch tried pattern statements = node TryStatement (block tried ∷ node CatchClause (pattern ∷ body statements ∷ []) ∷ null ∷ [])

-- with its head: a declaration, a test and an update; a declaration, and what is gone through
abbrev pub for_loop : (init test update statement : Piece) → Piece
for_loop init test update statement = node ForStatement (init ∷ test ∷ update ∷ statement ∷ [])

abbrev pub for_in : (left right statement : Piece) → Piece
for_in left right statement = node ForInStatement (left ∷ right ∷ statement ∷ [])

abbrev pub for_of : (left right statement : Piece) → Piece
for_of left right statement = node ForOfStatement (off ∷ left ∷ right ∷ statement ∷ [])

abbrev pub with_object : (of statement : Piece) → Piece
with_object of statement = node WithStatement (of ∷ statement ∷ [])

abbrev pub switch : Piece → List Piece → Piece
switch discriminant cases = node SwitchStatement (discriminant ∷ list cases ∷ [])

abbrev pub case : Piece → List Piece → Piece
case test statements = node SwitchCase (test ∷ list statements ∷ [])

-- ---- modules

abbrev pub import_from : List Piece → Piece → List Piece → Piece
import_from specifiers source attributes = node ImportDeclaration (list specifiers ∷ source ∷ list attributes ∷ [])

abbrev pub attribute : (key value : Piece) → Piece
attribute key value = node ImportAttribute (key ∷ value ∷ [])

abbrev pub imported : (name local : Piece) → Piece
imported name local = node ImportSpecifier (name ∷ local ∷ [])

abbrev pub export : Piece → Piece
export declared = node ExportNamedDeclaration (declared ∷ list [] ∷ null ∷ list [] ∷ [])

abbrev pub export_names : List Piece → Piece
export_names specifiers = node ExportNamedDeclaration (null ∷ list specifiers ∷ null ∷ list [] ∷ [])

abbrev pub export_from : List Piece → Piece → Piece
export_from specifiers source = node ExportNamedDeclaration (null ∷ list specifiers ∷ source ∷ list [] ∷ [])

abbrev pub export_all : (name source : Piece) → Piece
export_all name source = node ExportAllDeclaration (name ∷ source ∷ list [] ∷ [])

abbrev pub exported : (local name : Piece) → Piece
exported local name = node ExportSpecifier (local ∷ name ∷ [])

-- ---- whole trees

abbrev pub program : ℕ → List Piece → Parts
program source_type statements = node Program (list statements ∷ word source_type ∷ null ∷ []) done

abbrev pub script : List Piece → Parts
script = program 0

abbrev pub module_of : List Piece → Parts
module_of = program 1
