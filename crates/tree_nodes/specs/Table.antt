-- The node table, as data: of each kind its fields in printing order, and what its row says of names and scopes.
use Rattle.std.specs.Prelude.{ℕ, Bool, true, false, List, [], ◌∷◌, codes, Option, Some, None, bytes_eq, if◌then◌else◌}
use Rattle.tree_nodes.specs.Kinds.{all_kinds}
use Rattle.tree_nodes.specs.declared.kind.Kind.{Kind}
use Rattle.tree_nodes.specs.declared.kind.Kind.TheVariants.{Program, Hashbang, ExpressionStatement, BlockStatement, EmptyStatement, DebuggerStatement, ThisExpression, Super, ReturnStatement, ThrowStatement, LabeledStatement, BreakStatement, ContinueStatement, IfStatement, SwitchStatement, SwitchCase, TryStatement, CatchClause, WhileStatement, DoWhileStatement, ForStatement, ForInStatement, ForOfStatement, WithStatement, VariableDeclaration, VariableDeclarator, FunctionDeclaration, FunctionExpression, ArrowFunctionExpression, ClassDeclaration, ClassExpression, ClassBody, MethodDefinition, PropertyDefinition, StaticBlock, ArrayExpression, ObjectExpression, Property, SpreadElement, RestElement, UnaryExpression, UpdateExpression, BinaryExpression, LogicalExpression, AssignmentExpression, ConditionalExpression, CallExpression, NewExpression, MemberExpression, ChainExpression, SequenceExpression, YieldExpression, AwaitExpression, ImportExpression, MetaProperty, TemplateLiteral, TaggedTemplateExpression, TemplateElement, ObjectPattern, ArrayPattern, AssignmentPattern, Identifier, PrivateIdentifier, Literal, ImportDeclaration, ImportSpecifier, ImportDefaultSpecifier, ImportNamespaceSpecifier, ImportAttribute, ExportNamedDeclaration, ExportSpecifier, ExportDefaultDeclaration, ExportAllDeclaration}
use Rattle.tree_nodes.specs.declared.table.Declared.TheVariants.{Param, Class, ClassName, Catch, Import}
use Rattle.tree_nodes.specs.declared.table.Role.TheVariants.{Plain, MemberKey, Read, Write, ReadWrite, Declares}
use Rattle.tree_nodes.specs.declared.table.Mode.{Mode}
use Rattle.tree_nodes.specs.declared.table.Mode.TheVariants.{Gives, Same, Leaves, UnlessComputed, ByKind, UnlessOptional, ByOperator, UnlessSource, NamesFunction, NamesExpression}
use Rattle.tree_nodes.specs.declared.table.Mark.{Mark}
use Rattle.tree_nodes.specs.declared.table.Mark.TheVariants.{Usual, Body, Head, Exported, Valued, Declarator, Rest}
use Rattle.tree_nodes.specs.declared.table.Opens.{Opens}
use Rattle.tree_nodes.specs.declared.table.Opens.TheVariants.{Nothing, Block, BareBlock, Hoisting, WithBody, ClassMembers, NameHere, PrivateNameHere}
use Rattle.tree_nodes.specs.declared.table.Strict.{Strict}
use Rattle.tree_nodes.specs.declared.table.Strict.TheVariants.{AsOutside, Always, ByList, ByBlock}
use Rattle.tree_nodes.specs.declared.table.Words.{Words}
use Rattle.tree_nodes.specs.declared.table.Words.TheVariants.{SourceTypes, VariableKinds, MethodKinds, PropertyKinds, UnaryOperators, UpdateOperators, BinaryOperators, LogicalOperators, AssignmentOperators}
use Rattle.tree_nodes.specs.declared.table.Group.TheVariants.{Only, Statements, Bodies, ModuleItems, Expressions, Arguments, Callees, Chained, LeftOperands, Keys, MemberKeys, Members, Initials, ForTargets, ArrowBodies, ClassElements, ObjectMembers, PatternMembers, PropertyValues, Patterns, ElementsOrRest, ImportSpecifiers, Names, Strings, Locals, Declarations, Defaults}
use Rattle.tree_nodes.specs.declared.table.Class.{Class as FieldClass}
use Rattle.tree_nodes.specs.declared.table.Class.TheVariants.{Flag, Word, Text, TextOr, Name, LiteralValue, Pattern, Flags, Raw, Cooked, One, Maybe, Many, ManyOr, Holes}

-- a field: its key, what it holds, the role that it gives, whether it lies in the scope which its node opens, what else it does, whether null is left out in printing
pub record Column : Type 0 where
  pub key : List ℕ
  pub class : FieldClass
  pub mode : Mode
  pub inside : Bool
  pub mark : Mark
  pub omit : Bool

pub record Row : Type 0 where
  pub kind : Kind
  pub name : List ℕ
  pub opens : Opens
  pub strict : Strict
  pub columns : List Column

-- a field of nodes, whose Identifiers are read, and one that holds no node
abbrev pub node : List ℕ → FieldClass → Column
node key class = record { key = key; class = class; mode = Gives Read; inside = false; mark = Usual; omit = false }

abbrev pub other : List ℕ → FieldClass → Column
other key class = record { key = key; class = class; mode = Gives Plain; inside = false; mark = Usual; omit = false }

-- the same with another mode, with a mark, in the scope that the node opens, left out where null
abbrev pub mode : Mode → Column → Column
mode m c = record c { mode = m }

abbrev pub mark : Mark → Column → Column
mark k c = record c { mark = k }

abbrev pub inner : Column → Column
inner c = record c { inside = true }

abbrev pub omitted : Column → Column
omitted c = record c { omit = true }

-- for what stands past the last column
abbrev pub unlisted : Column
unlisted = other [] Flag

abbrev pub word_list : Words → List (List ℕ)
word_list SourceTypes = codes "script" ∷ codes "module" ∷ codes "commonjs" ∷ []
word_list VariableKinds = codes "var" ∷ codes "let" ∷ codes "const" ∷ codes "using" ∷ codes "await using" ∷ []
word_list MethodKinds = codes "constructor" ∷ codes "method" ∷ codes "get" ∷ codes "set" ∷ []
word_list PropertyKinds = codes "init" ∷ codes "get" ∷ codes "set" ∷ []
word_list UnaryOperators = codes "+" ∷ codes "-" ∷ codes "!" ∷ codes "~" ∷ codes "typeof" ∷ codes "void" ∷ codes "delete" ∷ []
word_list UpdateOperators = codes "++" ∷ codes "--" ∷ []
word_list BinaryOperators = codes "==" ∷ codes "!=" ∷ codes "===" ∷ codes "!==" ∷ codes "<" ∷ codes "<=" ∷ codes ">" ∷ codes ">=" ∷ codes "+" ∷ codes "-" ∷ codes "*" ∷ codes "/" ∷ codes "%" ∷ codes "**" ∷ codes "<<" ∷ codes ">>" ∷ codes ">>>" ∷ codes "|" ∷ codes "^" ∷ codes "&" ∷ codes "in" ∷ codes "instanceof" ∷ []
word_list LogicalOperators = codes "||" ∷ codes "&&" ∷ codes "??" ∷ []
word_list AssignmentOperators = codes "=" ∷ codes "+=" ∷ codes "-=" ∷ codes "*=" ∷ codes "/=" ∷ codes "%=" ∷ codes "**=" ∷ codes "<<=" ∷ codes ">>=" ∷ codes ">>>=" ∷ codes "|=" ∷ codes "^=" ∷ codes "&=" ∷ codes "||=" ∷ codes "&&=" ∷ codes "??=" ∷ []

-- a row, and one of a kind that opens no scope and leaves the code inside as strict as it is outside
abbrev pub scoped_row : Kind → List ℕ → Opens → Strict → List Column → Row
scoped_row kind name opens strict columns = record { kind = kind; name = name; opens = opens; strict = strict; columns = columns }

abbrev pub plain_row : Kind → List ℕ → List Column → Row
plain_row kind name columns = scoped_row kind name Nothing AsOutside columns

-- of each kind; a number in a column or after a strictness is that of a field of the same row, counted from 0
abbrev pub row : Kind → Row
row Program = scoped_row Program (codes "Program") Hoisting (ByList 1 0) (
    inner (node (codes "body") (Many (ModuleItems 1)))
    ∷ other (codes "sourceType") (Word SourceTypes)
    ∷ node (codes "hashbang") (Maybe (Only Hashbang))
    ∷ [])
row Hashbang = plain_row Hashbang (codes "Hashbang") (other (codes "value") Text ∷ [])
row ExpressionStatement = plain_row ExpressionStatement (codes "ExpressionStatement") (
    node (codes "expression") (One Expressions)
    ∷ omitted (other (codes "directive") TextOr)
    ∷ [])
row BlockStatement = scoped_row BlockStatement (codes "BlockStatement") BareBlock AsOutside (inner (node (codes "body") (Many Statements)) ∷ [])
row EmptyStatement = plain_row EmptyStatement (codes "EmptyStatement") []
row DebuggerStatement = plain_row DebuggerStatement (codes "DebuggerStatement") []
row ThisExpression = plain_row ThisExpression (codes "ThisExpression") []
row Super = plain_row Super (codes "Super") []
row ReturnStatement = plain_row ReturnStatement (codes "ReturnStatement") (node (codes "argument") (Maybe Expressions) ∷ [])
row ThrowStatement = plain_row ThrowStatement (codes "ThrowStatement") (node (codes "argument") (One Expressions) ∷ [])
row LabeledStatement = plain_row LabeledStatement (codes "LabeledStatement") (
    mode (Gives Plain) (node (codes "label") (One (Only Identifier)))
    ∷ node (codes "body") (One Bodies)
    ∷ [])
row BreakStatement = plain_row BreakStatement (codes "BreakStatement") (mode (Gives Plain) (node (codes "label") (Maybe (Only Identifier))) ∷ [])
row ContinueStatement = plain_row ContinueStatement (codes "ContinueStatement") (mode (Gives Plain) (node (codes "label") (Maybe (Only Identifier))) ∷ [])
row IfStatement = plain_row IfStatement (codes "IfStatement") (
    node (codes "test") (One Expressions)
    ∷ node (codes "consequent") (One Bodies)
    ∷ node (codes "alternate") (Maybe Bodies)
    ∷ [])
row SwitchStatement = scoped_row SwitchStatement (codes "SwitchStatement") Block AsOutside (
    node (codes "discriminant") (One Expressions)
    ∷ inner (node (codes "cases") (Many (Only SwitchCase)))
    ∷ [])
row SwitchCase = plain_row SwitchCase (codes "SwitchCase") (
    node (codes "test") (Maybe Expressions)
    ∷ node (codes "consequent") (Many Statements)
    ∷ [])
row TryStatement = plain_row TryStatement (codes "TryStatement") (
    node (codes "block") (One (Only BlockStatement))
    ∷ node (codes "handler") (Maybe (Only CatchClause))
    ∷ node (codes "finalizer") (Maybe (Only BlockStatement))
    ∷ [])
row CatchClause = scoped_row CatchClause (codes "CatchClause") Block AsOutside (
    inner (mark Head (mode (Gives (Declares Catch)) (node (codes "param") (Maybe Patterns))))
    ∷ inner (mark Body (node (codes "body") (One (Only BlockStatement))))
    ∷ [])
row WhileStatement = plain_row WhileStatement (codes "WhileStatement") (
    node (codes "test") (One Expressions)
    ∷ node (codes "body") (One Bodies)
    ∷ [])
row DoWhileStatement = plain_row DoWhileStatement (codes "DoWhileStatement") (
    node (codes "body") (One Bodies)
    ∷ node (codes "test") (One Expressions)
    ∷ [])
row ForStatement = scoped_row ForStatement (codes "ForStatement") Block AsOutside (
    inner (node (codes "init") (Maybe Initials))
    ∷ inner (node (codes "test") (Maybe Expressions))
    ∷ inner (node (codes "update") (Maybe Expressions))
    ∷ inner (node (codes "body") (One Bodies))
    ∷ [])
row ForInStatement = scoped_row ForInStatement (codes "ForInStatement") Block AsOutside (
    inner (mode (Gives Write) (node (codes "left") (One ForTargets)))
    ∷ inner (node (codes "right") (One Expressions))
    ∷ inner (node (codes "body") (One Bodies))
    ∷ [])
row ForOfStatement = scoped_row ForOfStatement (codes "ForOfStatement") Block AsOutside (
    other (codes "await") Flag
    ∷ inner (mode (Gives Write) (node (codes "left") (One ForTargets)))
    ∷ inner (node (codes "right") (One Expressions))
    ∷ inner (node (codes "body") (One Bodies))
    ∷ [])
row WithStatement = scoped_row WithStatement (codes "WithStatement") WithBody AsOutside (
    node (codes "object") (One Expressions)
    ∷ inner (node (codes "body") (One Bodies))
    ∷ [])
row VariableDeclaration = plain_row VariableDeclaration (codes "VariableDeclaration") (
    other (codes "kind") (Word VariableKinds)
    ∷ mode (ByKind 0) (node (codes "declarations") (Many (Only VariableDeclarator)))
    ∷ [])
row VariableDeclarator = plain_row VariableDeclarator (codes "VariableDeclarator") (
    mark (Declarator 1) (mode Same (node (codes "id") (One Patterns)))
    ∷ node (codes "init") (Maybe Expressions)
    ∷ [])
row FunctionDeclaration = scoped_row FunctionDeclaration (codes "FunctionDeclaration") Hoisting (ByBlock 4) (
    mode (NamesFunction 1 2) (node (codes "id") (Maybe (Only Identifier)))
    ∷ other (codes "generator") Flag
    ∷ other (codes "async") Flag
    ∷ inner (mark Head (mode (Gives (Declares Param)) (node (codes "params") (Many ElementsOrRest))))
    ∷ inner (mark Body (node (codes "body") (One (Only BlockStatement))))
    ∷ other (codes "expression") Flag
    ∷ [])
row FunctionExpression = scoped_row FunctionExpression (codes "FunctionExpression") Hoisting (ByBlock 4) (
    inner (mode (NamesExpression 1 2) (node (codes "id") (Maybe (Only Identifier))))
    ∷ other (codes "generator") Flag
    ∷ other (codes "async") Flag
    ∷ inner (mark Head (mode (Gives (Declares Param)) (node (codes "params") (Many ElementsOrRest))))
    ∷ inner (mark Body (node (codes "body") (One (Only BlockStatement))))
    ∷ other (codes "expression") Flag
    ∷ [])
row ArrowFunctionExpression = scoped_row ArrowFunctionExpression (codes "ArrowFunctionExpression") Hoisting (ByBlock 3) (
    other (codes "expression") Flag
    ∷ other (codes "async") Flag
    ∷ inner (mark Head (mode (Gives (Declares Param)) (node (codes "params") (Many ElementsOrRest))))
    ∷ inner (mark Body (node (codes "body") (One ArrowBodies)))
    ∷ [])
row ClassDeclaration = scoped_row ClassDeclaration (codes "ClassDeclaration") Block Always (
    mode (Gives (Declares Class)) (node (codes "id") (Maybe (Only Identifier)))
    ∷ inner (node (codes "superClass") (Maybe Expressions))
    ∷ inner (node (codes "body") (One (Only ClassBody)))
    ∷ [])
row ClassExpression = scoped_row ClassExpression (codes "ClassExpression") Block Always (
    inner (mode (Gives (Declares ClassName)) (node (codes "id") (Maybe (Only Identifier))))
    ∷ inner (node (codes "superClass") (Maybe Expressions))
    ∷ inner (node (codes "body") (One (Only ClassBody)))
    ∷ [])
row ClassBody = scoped_row ClassBody (codes "ClassBody") ClassMembers AsOutside (inner (node (codes "body") (Many ClassElements)) ∷ [])
row MethodDefinition = plain_row MethodDefinition (codes "MethodDefinition") (
    mode (UnlessComputed 3 MemberKey) (node (codes "key") (One (MemberKeys 3)))
    ∷ node (codes "value") (One (Only FunctionExpression))
    ∷ other (codes "kind") (Word MethodKinds)
    ∷ other (codes "computed") Flag
    ∷ other (codes "static") Flag
    ∷ [])
row PropertyDefinition = plain_row PropertyDefinition (codes "PropertyDefinition") (
    mode (UnlessComputed 2 MemberKey) (node (codes "key") (One (MemberKeys 2)))
    ∷ node (codes "value") (Maybe Expressions)
    ∷ other (codes "computed") Flag
    ∷ other (codes "static") Flag
    ∷ [])
row StaticBlock = scoped_row StaticBlock (codes "StaticBlock") Hoisting AsOutside (inner (node (codes "body") (Many Statements)) ∷ [])
row ArrayExpression = plain_row ArrayExpression (codes "ArrayExpression") (node (codes "elements") (Holes Arguments) ∷ [])
row ObjectExpression = plain_row ObjectExpression (codes "ObjectExpression") (node (codes "properties") (Many ObjectMembers) ∷ [])
row Property = plain_row Property (codes "Property") (
    other (codes "kind") (Word PropertyKinds)
    ∷ mode (UnlessComputed 5 Plain) (node (codes "key") (One (Keys 5)))
    ∷ mode Same (node (codes "value") (One PropertyValues))
    ∷ other (codes "method") Flag
    ∷ other (codes "shorthand") Flag
    ∷ other (codes "computed") Flag
    ∷ [])
row SpreadElement = plain_row SpreadElement (codes "SpreadElement") (node (codes "argument") (One Expressions) ∷ [])
row RestElement = plain_row RestElement (codes "RestElement") (mark Rest (mode Same (node (codes "argument") (One Patterns))) ∷ [])
row UnaryExpression = plain_row UnaryExpression (codes "UnaryExpression") (
    other (codes "operator") (Word UnaryOperators)
    ∷ other (codes "prefix") Flag
    ∷ node (codes "argument") (One Expressions)
    ∷ [])
row UpdateExpression = plain_row UpdateExpression (codes "UpdateExpression") (
    other (codes "operator") (Word UpdateOperators)
    ∷ other (codes "prefix") Flag
    ∷ mode (Gives ReadWrite) (node (codes "argument") (One Expressions))
    ∷ [])
row BinaryExpression = plain_row BinaryExpression (codes "BinaryExpression") (
    node (codes "left") (One (LeftOperands 1))
    ∷ other (codes "operator") (Word BinaryOperators)
    ∷ node (codes "right") (One Expressions)
    ∷ [])
row LogicalExpression = plain_row LogicalExpression (codes "LogicalExpression") (
    node (codes "left") (One Expressions)
    ∷ other (codes "operator") (Word LogicalOperators)
    ∷ node (codes "right") (One Expressions)
    ∷ [])
row AssignmentExpression = plain_row AssignmentExpression (codes "AssignmentExpression") (
    other (codes "operator") (Word AssignmentOperators)
    ∷ mark (Valued 2) (mode (ByOperator 0) (node (codes "left") (One Patterns)))
    ∷ node (codes "right") (One Expressions)
    ∷ [])
row ConditionalExpression = plain_row ConditionalExpression (codes "ConditionalExpression") (
    node (codes "test") (One Expressions)
    ∷ node (codes "consequent") (One Expressions)
    ∷ node (codes "alternate") (One Expressions)
    ∷ [])
row CallExpression = plain_row CallExpression (codes "CallExpression") (
    mode (UnlessOptional 2) (node (codes "callee") (One Callees))
    ∷ node (codes "arguments") (Many Arguments)
    ∷ other (codes "optional") Flag
    ∷ [])
row NewExpression = plain_row NewExpression (codes "NewExpression") (
    node (codes "callee") (One Expressions)
    ∷ node (codes "arguments") (Many Arguments)
    ∷ [])
row MemberExpression = plain_row MemberExpression (codes "MemberExpression") (
    node (codes "object") (One Callees)
    ∷ mode (UnlessComputed 2 Plain) (node (codes "property") (One (Members 2)))
    ∷ other (codes "computed") Flag
    ∷ other (codes "optional") Flag
    ∷ [])
row ChainExpression = plain_row ChainExpression (codes "ChainExpression") (node (codes "expression") (One Chained) ∷ [])
row SequenceExpression = plain_row SequenceExpression (codes "SequenceExpression") (node (codes "expressions") (Many Expressions) ∷ [])
row YieldExpression = plain_row YieldExpression (codes "YieldExpression") (
    other (codes "delegate") Flag
    ∷ node (codes "argument") (Maybe Expressions)
    ∷ [])
row AwaitExpression = plain_row AwaitExpression (codes "AwaitExpression") (node (codes "argument") (One Expressions) ∷ [])
row ImportExpression = plain_row ImportExpression (codes "ImportExpression") (
    node (codes "source") (One Expressions)
    ∷ node (codes "options") (Maybe Expressions)
    ∷ [])
row MetaProperty = plain_row MetaProperty (codes "MetaProperty") (
    mode (Gives Plain) (node (codes "meta") (One (Only Identifier)))
    ∷ mode (Gives Plain) (node (codes "property") (One (Only Identifier)))
    ∷ [])
row TemplateLiteral = plain_row TemplateLiteral (codes "TemplateLiteral") (
    node (codes "quasis") (Many (Only TemplateElement))
    ∷ node (codes "expressions") (Many Expressions)
    ∷ [])
row TaggedTemplateExpression = plain_row TaggedTemplateExpression (codes "TaggedTemplateExpression") (
    node (codes "tag") (One Expressions)
    ∷ node (codes "quasi") (One (Only TemplateLiteral))
    ∷ [])
row TemplateElement = plain_row TemplateElement (codes "TemplateElement") (
    other (codes "raw") Raw
    ∷ other (codes "cooked") Cooked
    ∷ other (codes "tail") Flag
    ∷ [])
row ObjectPattern = plain_row ObjectPattern (codes "ObjectPattern") (mode Leaves (node (codes "properties") (Many PatternMembers)) ∷ [])
row ArrayPattern = plain_row ArrayPattern (codes "ArrayPattern") (mode Leaves (node (codes "elements") (Holes ElementsOrRest)) ∷ [])
row AssignmentPattern = plain_row AssignmentPattern (codes "AssignmentPattern") (
    mark (Valued 1) (mode Same (node (codes "left") (One Patterns)))
    ∷ node (codes "right") (One Expressions)
    ∷ [])
row Identifier = scoped_row Identifier (codes "Identifier") NameHere AsOutside (other (codes "name") Name ∷ [])
row PrivateIdentifier = scoped_row PrivateIdentifier (codes "PrivateIdentifier") PrivateNameHere AsOutside (other (codes "name") Name ∷ [])
row Literal = plain_row Literal (codes "Literal") (
    other (codes "value") LiteralValue
    ∷ other (codes "raw") TextOr
    ∷ other (codes "pattern") Pattern
    ∷ other (codes "flags") Flags
    ∷ omitted (other (codes "bigint") TextOr)
    ∷ [])
row ImportDeclaration = plain_row ImportDeclaration (codes "ImportDeclaration") (
    mode (Gives (Declares Import)) (node (codes "specifiers") (Many ImportSpecifiers))
    ∷ node (codes "source") (One Strings)
    ∷ node (codes "attributes") (ManyOr (Only ImportAttribute))
    ∷ [])
row ImportSpecifier = plain_row ImportSpecifier (codes "ImportSpecifier") (
    mode (Gives Plain) (node (codes "imported") (One Names))
    ∷ mode Same (node (codes "local") (One (Only Identifier)))
    ∷ [])
row ImportDefaultSpecifier = plain_row ImportDefaultSpecifier (codes "ImportDefaultSpecifier") (mode Same (node (codes "local") (One (Only Identifier))) ∷ [])
row ImportNamespaceSpecifier = plain_row ImportNamespaceSpecifier (codes "ImportNamespaceSpecifier") (mode Same (node (codes "local") (One (Only Identifier))) ∷ [])
row ImportAttribute = plain_row ImportAttribute (codes "ImportAttribute") (
    mode (Gives Plain) (node (codes "key") (One Names))
    ∷ node (codes "value") (One Strings)
    ∷ [])
row ExportNamedDeclaration = plain_row ExportNamedDeclaration (codes "ExportNamedDeclaration") (
    mark Exported (node (codes "declaration") (Maybe Declarations))
    ∷ mode (UnlessSource 2) (node (codes "specifiers") (Many (Only ExportSpecifier)))
    ∷ node (codes "source") (Maybe Strings)
    ∷ node (codes "attributes") (ManyOr (Only ImportAttribute))
    ∷ [])
row ExportSpecifier = plain_row ExportSpecifier (codes "ExportSpecifier") (
    mode Same (node (codes "local") (One Locals))
    ∷ mode (Gives Plain) (node (codes "exported") (One Names))
    ∷ [])
row ExportDefaultDeclaration = plain_row ExportDefaultDeclaration (codes "ExportDefaultDeclaration") (node (codes "declaration") (One Defaults) ∷ [])
row ExportAllDeclaration = plain_row ExportAllDeclaration (codes "ExportAllDeclaration") (
    mode (Gives Plain) (node (codes "exported") (Maybe Names))
    ∷ node (codes "source") (One Strings)
    ∷ node (codes "attributes") (ManyOr (Only ImportAttribute))
    ∷ [])

-- the first row of these kinds that has the name
abbrev pub row_among : List Kind → List ℕ → Option Row
row_among [] name = None
row_among (k ∷ ks) name = if bytes_eq (row k).name name then Some (row k) else row_among ks name

-- the row of the kind with this name
abbrev pub row_named : List ℕ → Option Row
row_named name = row_among all_kinds name
