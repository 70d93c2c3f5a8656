-- Where each node may stand: what a field takes, by its group, by the fields beside it, and by the role that it gives.
use Rattle.std.specs.Prelude.{ℕ, Bool, true, false, not, ◌&&◌, ◌||◌, nat_eq, List, [], ◌∷◌, bytes_eq, if◌then◌else◌}
use Rattle.tree_nodes.specs.declared.table.Class.{Class as FieldClass}
use Rattle.tree_nodes.specs.Along.{Along, all, each, first_column, other_columns}
use Rattle.tree_nodes.specs.Kinds.{is_in, is_kind}
use Rattle.tree_nodes.specs.Literals.{has_case, is_key, is_text}
use Rattle.tree_nodes.specs.Roles.{role_at}
use Rattle.tree_nodes.specs.Table.{Column, mode, node, row}
use Rattle.tree_nodes.specs.Tree.{Parts, Text, Tree, alone, atom, child, done, flag_of, is_empty, many, part, text_of, word_of}
use Rattle.tree_nodes.specs.declared.kind.Kind.{Kind}
use Rattle.tree_nodes.specs.declared.kind.Kind.TheVariants.{ArrayExpression, ArrayPattern, ArrowFunctionExpression, AssignmentExpression, AssignmentPattern, AwaitExpression, BinaryExpression, BlockStatement, BreakStatement, CallExpression, ChainExpression, ClassDeclaration, ClassExpression, ConditionalExpression, ContinueStatement, DebuggerStatement, DoWhileStatement, EmptyStatement, ExportAllDeclaration, ExportDefaultDeclaration, ExportNamedDeclaration, ExpressionStatement, ForInStatement, ForOfStatement, ForStatement, FunctionDeclaration, FunctionExpression, Identifier, IfStatement, ImportDeclaration, ImportDefaultSpecifier, ImportExpression, ImportNamespaceSpecifier, ImportSpecifier, LabeledStatement, Literal, LogicalExpression, MemberExpression, MetaProperty, MethodDefinition, NewExpression, ObjectExpression, ObjectPattern, PrivateIdentifier, Program, Property, PropertyDefinition, RestElement, ReturnStatement, SequenceExpression, SpreadElement, StaticBlock, Super, SwitchStatement, TaggedTemplateExpression, TemplateLiteral, ThisExpression, ThrowStatement, TryStatement, UnaryExpression, UpdateExpression, VariableDeclaration, WhileStatement, WithStatement, YieldExpression}
use Rattle.tree_nodes.specs.declared.table.Class.TheVariants.{Holes, Many, ManyOr, Maybe, One}
use Rattle.tree_nodes.specs.declared.table.Group.{Group}
use Rattle.tree_nodes.specs.declared.table.Group.TheVariants.{Arguments, ArrowBodies, Bodies, Callees, Chained, ClassElements, Declarations, Defaults, ElementsOrRest, Expressions, ForTargets, ImportSpecifiers, Initials, Keys, LeftOperands, Locals, MemberKeys, Members, ModuleItems, Names, ObjectMembers, Only, PatternMembers, Patterns, PropertyValues, Statements, Strings}
use Rattle.tree_nodes.specs.declared.table.Mode.TheVariants.{Gives}
use Rattle.tree_nodes.specs.declared.table.Role.{Role}
use Rattle.tree_nodes.specs.declared.table.Role.TheVariants.{Declares, Plain, Read}

-- ---- lists of kinds

abbrev pub bodies : List Kind
bodies = ExpressionStatement ∷ BlockStatement ∷ EmptyStatement ∷ DebuggerStatement ∷ ReturnStatement ∷ ThrowStatement ∷ LabeledStatement ∷ BreakStatement ∷ ContinueStatement ∷ IfStatement ∷ SwitchStatement ∷ TryStatement ∷ WhileStatement ∷ DoWhileStatement ∷ ForStatement ∷ ForInStatement ∷ ForOfStatement ∷ WithStatement ∷ VariableDeclaration ∷ []

abbrev pub statements : List Kind
statements = FunctionDeclaration ∷ ClassDeclaration ∷ bodies

abbrev pub module_declarations : List Kind
module_declarations = ImportDeclaration ∷ ExportNamedDeclaration ∷ ExportDefaultDeclaration ∷ ExportAllDeclaration ∷ []

abbrev pub expressions : List Kind
expressions = ThisExpression ∷ ArrayExpression ∷ ObjectExpression ∷ FunctionExpression ∷ ArrowFunctionExpression ∷ ClassExpression ∷ UnaryExpression ∷ UpdateExpression ∷ BinaryExpression ∷ LogicalExpression ∷ AssignmentExpression ∷ ConditionalExpression ∷ CallExpression ∷ NewExpression ∷ MemberExpression ∷ ChainExpression ∷ SequenceExpression ∷ YieldExpression ∷ AwaitExpression ∷ ImportExpression ∷ MetaProperty ∷ TemplateLiteral ∷ TaggedTemplateExpression ∷ Identifier ∷ Literal ∷ []

-- ---- conditions on the node that stands there

-- a function or class declaration has a name
unfoldable pub is_named : Kind → Parts → Bool
is_named FunctionDeclaration fields = not (is_empty (part fields 0))
is_named ClassDeclaration fields = not (is_empty (part fields 0))
is_named _ fields = true

-- a declaration is one of kind `var`
unfoldable pub is_var_alone : Kind → Parts → Bool
is_var_alone VariableDeclaration fields = nat_eq (word_of (part fields 0)) 0
is_var_alone _ fields = true

unfoldable pub is_string_literal : Kind → Parts → Bool
is_string_literal Literal fields = is_text fields
is_string_literal _ fields = false

-- a key that isn't computed
unfoldable pub is_plain_key : Kind → Parts → Bool
is_plain_key Identifier fields = true
is_plain_key Literal fields = is_key fields
is_plain_key _ fields = false

unfoldable pub is_expression : Kind → Bool
is_expression k = is_in k expressions

unfoldable pub declares_role : Role → Bool
declares_role (Declares d) = true
declares_role _ = false

-- a pattern: one that declares, or a target, as the role says
unfoldable pub is_pattern : Role → Kind → Bool
is_pattern r k = is_in k (Identifier ∷ ObjectPattern ∷ ArrayPattern ∷ []) || not (declares_role r) && is_kind k MemberExpression

unfoldable pub is_read : Role → Bool
is_read Read = true
is_read _ = false

-- a value of a Property: an expression where the role is that of a reference that is read, else a pattern or one with a default
unfoldable pub is_property_value : Role → Kind → Bool
is_property_value r k = if is_read r then is_expression k else is_pattern r k || is_kind k AssignmentPattern

-- the number of `in` among the binary operators
abbrev pub word_in : ℕ
word_in = 20

-- whether a node of this kind with these fields may stand in a field of the group, which gives this role, beside the fields of its parent
unfoldable pub admits : Group → Role → Parts → Kind → Parts → Bool
admits (Only l) r within k fields = is_kind k l
admits Statements r within k fields = is_in k statements && is_named k fields
admits Bodies r within k fields = is_in k bodies && is_var_alone k fields
admits (ModuleItems source_type) r within k fields = is_in k statements && is_named k fields || nat_eq (word_of (part within source_type)) 1 && is_in k module_declarations
admits Expressions r within k fields = is_expression k
admits Arguments r within k fields = is_expression k || is_kind k SpreadElement
admits Callees r within k fields = is_expression k || is_kind k Super
admits Chained r within k fields = is_in k (CallExpression ∷ MemberExpression ∷ [])
admits (LeftOperands operator) r within k fields = is_expression k || nat_eq (word_of (part within operator)) word_in && is_kind k PrivateIdentifier
admits (Keys computed) r within k fields = if flag_of (part within computed) then is_expression k else is_plain_key k fields
admits (MemberKeys computed) r within k fields = if flag_of (part within computed) then is_expression k else is_plain_key k fields || is_kind k PrivateIdentifier
admits (Members computed) r within k fields = if flag_of (part within computed) then is_expression k else is_in k (Identifier ∷ PrivateIdentifier ∷ [])
admits Initials r within k fields = is_expression k || is_kind k VariableDeclaration
admits ForTargets r within k fields = is_pattern r k || is_kind k VariableDeclaration
admits ArrowBodies r within k fields = is_expression k || is_kind k BlockStatement
admits ClassElements r within k fields = is_in k (MethodDefinition ∷ PropertyDefinition ∷ StaticBlock ∷ [])
admits ObjectMembers r within k fields = is_in k (Property ∷ SpreadElement ∷ [])
admits PatternMembers r within k fields = is_in k (Property ∷ RestElement ∷ [])
admits PropertyValues r within k fields = is_property_value r k
admits Patterns r within k fields = is_pattern r k
admits ElementsOrRest r within k fields = is_pattern r k || is_in k (AssignmentPattern ∷ RestElement ∷ [])
admits ImportSpecifiers r within k fields = is_in k (ImportSpecifier ∷ ImportDefaultSpecifier ∷ ImportNamespaceSpecifier ∷ [])
admits Names r within k fields = is_kind k Identifier || is_string_literal k fields
admits Strings r within k fields = is_string_literal k fields
admits Locals r within k fields = is_kind k Identifier || not (is_read r) && is_string_literal k fields
admits Declarations r within k fields = is_in k (VariableDeclaration ∷ FunctionDeclaration ∷ ClassDeclaration ∷ []) && is_named k fields
admits Defaults r within k fields = is_expression k || is_in k (FunctionDeclaration ∷ ClassDeclaration ∷ [])

unfoldable pub group_admits : FieldClass → Role → Parts → Kind → Parts → Bool
group_admits (One g) r within k fields = admits g r within k fields
group_admits (Maybe g) r within k fields = admits g r within k fields
group_admits (Many g) r within k fields = admits g r within k fields
group_admits (ManyOr g) r within k fields = admits g r within k fields
group_admits (Holes g) r within k fields = admits g r within k fields
group_admits _ r within k fields = false

-- ---- conditions on a node alone

unfoldable pub identifier_name : Parts → Text
identifier_name (child Identifier s e fields more) = text_of fields
identifier_name _ = []

-- the name of an Identifier, or of the left of an AssignmentPattern
unfoldable pub own_name : Parts → Text
own_name (child Identifier s e fields more) = text_of fields
own_name (child AssignmentPattern s e fields more) = identifier_name (part fields 0)
own_name _ = []

unfoldable pub is_identifier : Parts → Bool
is_identifier (child Identifier s e fields more) = true
is_identifier _ = false

-- a shorthand mark stands on a key that is an Identifier and isn't computed, before a value of the same name
unfoldable pub is_short : Parts → Bool
is_short fields = not (flag_of (part fields 5)) && is_identifier (part fields 1) && bytes_eq (own_name (part fields 1)) (own_name (part fields 2))

unfoldable pub is_sound : Kind → Parts → Bool
is_sound Property fields = not (flag_of (part fields 4)) || is_short fields
is_sound Literal fields = has_case fields
is_sound _ fields = true

-- ---- a run of parts, in a node of this role with these fields

unfoldable pub stands : Parts → Along → Role → Parts → Bool
stands done cs own within = true
stands (atom a more) cs own within = stands more (other_columns cs) own within
stands (many items more) cs own within = stands items (all (first_column cs)) own within && stands more (other_columns cs) own within
stands (child k s e fields more) cs own within =
    let r : Role = role_at (first_column cs).mode own within in
    group_admits (first_column cs).class r within k fields && is_sound k fields && stands fields (each (row k).columns) r fields && stands more (other_columns cs) own within

-- a run in a field of this class, which gives this role
abbrev pub stands_in : FieldClass → Role → Parts → Parts → Bool
stands_in class r within ps = stands ps (all (mode (Gives r) (node [] class))) Plain within

-- the column in which a tree's root stands
abbrev pub root_column : Column
root_column = node [] (One (Only Program))

unfoldable pub is_placed : Tree → Bool
is_placed t = stands (alone t) (all root_column) Plain done
