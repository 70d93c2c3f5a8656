-- The kinds of nodes and their numbers.
use Rattle.std.specs.Prelude.{◌≡◌, ℕ, Bool, false, ◌||◌, nat_eq, List, [], ◌∷◌, get_or}
use Rattle.std.proofs.Common.{refl}
use Rattle.tree_nodes.specs.declared.kind.Kind.{Kind}
use Rattle.tree_nodes.specs.declared.kind.Kind.TheVariants.{Program, Hashbang, ExpressionStatement, BlockStatement, EmptyStatement, DebuggerStatement, ThisExpression, Super, ReturnStatement, ThrowStatement, LabeledStatement, BreakStatement, ContinueStatement, IfStatement, SwitchStatement, SwitchCase, TryStatement, CatchClause, WhileStatement, DoWhileStatement, ForStatement, ForInStatement, ForOfStatement, WithStatement, VariableDeclaration, VariableDeclarator, FunctionDeclaration, FunctionExpression, ArrowFunctionExpression, ClassDeclaration, ClassExpression, ClassBody, MethodDefinition, PropertyDefinition, StaticBlock, ArrayExpression, ObjectExpression, Property, SpreadElement, RestElement, UnaryExpression, UpdateExpression, BinaryExpression, LogicalExpression, AssignmentExpression, ConditionalExpression, CallExpression, NewExpression, MemberExpression, ChainExpression, SequenceExpression, YieldExpression, AwaitExpression, ImportExpression, MetaProperty, TemplateLiteral, TaggedTemplateExpression, TemplateElement, ObjectPattern, ArrayPattern, AssignmentPattern, Identifier, PrivateIdentifier, Literal, ImportDeclaration, ImportSpecifier, ImportDefaultSpecifier, ImportNamespaceSpecifier, ImportAttribute, ExportNamedDeclaration, ExportSpecifier, ExportDefaultDeclaration, ExportAllDeclaration}

abbrev pub kind_number : Kind → ℕ
kind_number Program = 0
kind_number Hashbang = 1
kind_number ExpressionStatement = 2
kind_number BlockStatement = 3
kind_number EmptyStatement = 4
kind_number DebuggerStatement = 5
kind_number ThisExpression = 6
kind_number Super = 7
kind_number ReturnStatement = 8
kind_number ThrowStatement = 9
kind_number LabeledStatement = 10
kind_number BreakStatement = 11
kind_number ContinueStatement = 12
kind_number IfStatement = 13
kind_number SwitchStatement = 14
kind_number SwitchCase = 15
kind_number TryStatement = 16
kind_number CatchClause = 17
kind_number WhileStatement = 18
kind_number DoWhileStatement = 19
kind_number ForStatement = 20
kind_number ForInStatement = 21
kind_number ForOfStatement = 22
kind_number WithStatement = 23
kind_number VariableDeclaration = 24
kind_number VariableDeclarator = 25
kind_number FunctionDeclaration = 26
kind_number FunctionExpression = 27
kind_number ArrowFunctionExpression = 28
kind_number ClassDeclaration = 29
kind_number ClassExpression = 30
kind_number ClassBody = 31
kind_number MethodDefinition = 32
kind_number PropertyDefinition = 33
kind_number StaticBlock = 34
kind_number ArrayExpression = 35
kind_number ObjectExpression = 36
kind_number Property = 37
kind_number SpreadElement = 38
kind_number RestElement = 39
kind_number UnaryExpression = 40
kind_number UpdateExpression = 41
kind_number BinaryExpression = 42
kind_number LogicalExpression = 43
kind_number AssignmentExpression = 44
kind_number ConditionalExpression = 45
kind_number CallExpression = 46
kind_number NewExpression = 47
kind_number MemberExpression = 48
kind_number ChainExpression = 49
kind_number SequenceExpression = 50
kind_number YieldExpression = 51
kind_number AwaitExpression = 52
kind_number ImportExpression = 53
kind_number MetaProperty = 54
kind_number TemplateLiteral = 55
kind_number TaggedTemplateExpression = 56
kind_number TemplateElement = 57
kind_number ObjectPattern = 58
kind_number ArrayPattern = 59
kind_number AssignmentPattern = 60
kind_number Identifier = 61
kind_number PrivateIdentifier = 62
kind_number Literal = 63
kind_number ImportDeclaration = 64
kind_number ImportSpecifier = 65
kind_number ImportDefaultSpecifier = 66
kind_number ImportNamespaceSpecifier = 67
kind_number ImportAttribute = 68
kind_number ExportNamedDeclaration = 69
kind_number ExportSpecifier = 70
kind_number ExportDefaultDeclaration = 71
kind_number ExportAllDeclaration = 72

abbrev pub all_kinds : List Kind
all_kinds = Program ∷ Hashbang ∷ ExpressionStatement ∷ BlockStatement ∷ EmptyStatement ∷ DebuggerStatement ∷ ThisExpression ∷ Super ∷ ReturnStatement ∷ ThrowStatement ∷ LabeledStatement ∷ BreakStatement ∷ ContinueStatement ∷ IfStatement ∷ SwitchStatement ∷ SwitchCase ∷ TryStatement ∷ CatchClause ∷ WhileStatement ∷ DoWhileStatement ∷ ForStatement ∷ ForInStatement ∷ ForOfStatement ∷ WithStatement ∷ VariableDeclaration ∷ VariableDeclarator ∷ FunctionDeclaration ∷ FunctionExpression ∷ ArrowFunctionExpression ∷ ClassDeclaration ∷ ClassExpression ∷ ClassBody ∷ MethodDefinition ∷ PropertyDefinition ∷ StaticBlock ∷ ArrayExpression ∷ ObjectExpression ∷ Property ∷ SpreadElement ∷ RestElement ∷ UnaryExpression ∷ UpdateExpression ∷ BinaryExpression ∷ LogicalExpression ∷ AssignmentExpression ∷ ConditionalExpression ∷ CallExpression ∷ NewExpression ∷ MemberExpression ∷ ChainExpression ∷ SequenceExpression ∷ YieldExpression ∷ AwaitExpression ∷ ImportExpression ∷ MetaProperty ∷ TemplateLiteral ∷ TaggedTemplateExpression ∷ TemplateElement ∷ ObjectPattern ∷ ArrayPattern ∷ AssignmentPattern ∷ Identifier ∷ PrivateIdentifier ∷ Literal ∷ ImportDeclaration ∷ ImportSpecifier ∷ ImportDefaultSpecifier ∷ ImportNamespaceSpecifier ∷ ImportAttribute ∷ ExportNamedDeclaration ∷ ExportSpecifier ∷ ExportDefaultDeclaration ∷ ExportAllDeclaration ∷ []

abbrev pub kind_at : ℕ → Kind
kind_at n = get_or all_kinds n Program

pub kind_at-kind_number : (k : Kind) → kind_at (kind_number k) ≡ k
kind_at-kind_number Program = refl
kind_at-kind_number _ = refl

unfoldable pub is_kind : Kind → Kind → Bool
is_kind k l = nat_eq (kind_number k) (kind_number l)

-- a kind is listed
unfoldable pub is_in : Kind → List Kind → Bool
is_in k [] = false
is_in k (l ∷ ls) = is_kind l k || is_in k ls
