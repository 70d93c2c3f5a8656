-- The shape of an expression in a tree, where it is one that can be printed.
use Rattle.std.specs.Prelude.{ℕ, zero, suc, Bool, true, false, List, [], ◌∷◌, Option, Some, None, IsSome, option_map, slice_get, if◌then◌else◌}
use Rattle.syntax_lex.specs.Keyword.{is_reserved_keyword}
use Rattle.syntax_lex.specs.declared.operator.assignment.AssignmentOperator.{AssignmentOperator}
use Rattle.syntax_lex.specs.declared.operator.assignment.AssignmentOperator.TheVariants as assign
use Rattle.syntax_lex.specs.declared.operator.binary.BinaryOperator.{BinaryOperator}
use Rattle.syntax_lex.specs.declared.operator.binary.BinaryOperator.TheVariants as binary
use Rattle.syntax_lex.specs.declared.operator.logical.LogicalOperator.{LogicalOperator}
use Rattle.syntax_lex.specs.declared.operator.logical.LogicalOperator.TheVariants as logical
use Rattle.syntax_lex.specs.declared.operator.unary.UnaryOperator.{UnaryOperator}
use Rattle.syntax_lex.specs.declared.operator.unary.UnaryOperator.TheVariants as unary
use Rattle.syntax_lex.specs.declared.operator.update.UpdateOperator.{UpdateOperator}
use Rattle.syntax_lex.specs.declared.operator.update.UpdateOperator.TheVariants as update
use Rattle.tree_nodes.specs.Literals.{case_of}
use Rattle.tree_nodes.specs.Tree.{Parts, Text, Tree, alone, atom, child, done, flag, flag_of, many, part, text_of, units, whole, word_of}
use Rattle.tree_nodes.specs.declared.kind.Kind.{Kind}
use Rattle.tree_nodes.specs.declared.kind.Kind.TheVariants.{ArrayExpression, AssignmentExpression, BinaryExpression, CallExpression, ConditionalExpression, Identifier, Literal, LogicalExpression, MemberExpression, NewExpression, SequenceExpression, ThisExpression, UnaryExpression, UpdateExpression}
use Rattle.tree_nodes.specs.declared.literals.LiteralCase.{LiteralCase}
use Rattle.tree_nodes.specs.declared.literals.LiteralCase.TheVariants as case
use Rattle.js_grammar.specs.Shapes.{Array, Assign, Binary, Boolean, Call, Conditional, Index, Infix, Logical, Member, Name, New, Null, One, Operand, Postfix, Prefix, Sequence, Shape, Shapes, This, Unary, Units, Whole, also, is_target, none}

-- ---- operators, in the order of the words in the node table

abbrev pub assignment_operators : List AssignmentOperator
assignment_operators =
    assign.Assign ∷ assign.Addition ∷ assign.Subtraction ∷ assign.Multiplication ∷ assign.Division ∷ assign.Remainder
    ∷ assign.Exponential ∷ assign.ShiftLeft ∷ assign.ShiftRight ∷ assign.ShiftRightZeroFill ∷ assign.BitwiseOR
    ∷ assign.BitwiseXOR ∷ assign.BitwiseAnd ∷ assign.LogicalOr ∷ assign.LogicalAnd ∷ assign.LogicalNullish ∷ []

abbrev pub binary_operators : List BinaryOperator
binary_operators =
    binary.Equality ∷ binary.Inequality ∷ binary.StrictEquality ∷ binary.StrictInequality ∷ binary.LessThan
    ∷ binary.LessEqualThan ∷ binary.GreaterThan ∷ binary.GreaterEqualThan ∷ binary.Addition ∷ binary.Subtraction
    ∷ binary.Multiplication ∷ binary.Division ∷ binary.Remainder ∷ binary.Exponential ∷ binary.ShiftLeft
    ∷ binary.ShiftRight ∷ binary.ShiftRightZeroFill ∷ binary.BitwiseOR ∷ binary.BitwiseXOR ∷ binary.BitwiseAnd
    ∷ binary.In ∷ binary.Instanceof ∷ []

abbrev pub logical_operators : List LogicalOperator
logical_operators = logical.Or ∷ logical.And ∷ logical.Coalesce ∷ []

abbrev pub unary_operators : List UnaryOperator
unary_operators =
    unary.UnaryPlus ∷ unary.UnaryNegation ∷ unary.LogicalNot ∷ unary.BitwiseNot ∷ unary.Typeof ∷ unary.Void ∷ unary.Delete ∷ []

abbrev pub update_operators : List UpdateOperator
update_operators = update.Increment ∷ update.Decrement ∷ []

-- ---- what is made of parts, where each part is there

abbrev pub two : {A B C : Type 0} → (A → B → C) → Option A → Option B → Option C
two f None b = None
two f (Some x) None = None
two f (Some x) (Some y) = Some (f x y)

abbrev pub three : {A B C D : Type 0} → (A → B → C → D) → Option A → Option B → Option C → Option D
three f None b c = None
three f (Some x) None c = None
three f (Some x) (Some y) None = None
three f (Some x) (Some y) (Some z) = Some (f x y z)

-- ---- parts of an expression

-- a name that is no reserved word
unfoldable pub unreserved : Text → Option Operand
unreserved w = if is_reserved_keyword w then None else Some (Name w)

unfoldable pub value_operand : Parts → Option Operand
value_operand (atom (units u) more) = Some (Units u)
value_operand (atom (flag b) more) = Some (Boolean b)
value_operand (atom (whole n) more) = Some (Whole n)
value_operand _ = None

-- a string, a truth value, a whole number below 2^64 or null
unfoldable pub operand_by_case : LiteralCase → Parts → Option Operand
operand_by_case case.Text value = value_operand value
operand_by_case case.Boolean value = value_operand value
operand_by_case case.Number value = value_operand value
operand_by_case case.Null value = Some Null
operand_by_case _ value = None

abbrev pub literal_operand : Parts → Option Operand
literal_operand fields = operand_by_case (case_of fields) (part fields 0)

-- the name that an Identifier is, whichever word it is
unfoldable pub plain_name : Parts → Option Text
plain_name (child Identifier s e fields more) = Some (text_of fields)
plain_name _ = None

unfoldable pub target : Option Shape → Option Shape
target None = None
target (Some s) = if is_target s then Some s else None

-- of two parts or more
unfoldable pub in_sequence : Option Shapes → Option Shape
in_sequence (Some (also x (also y ss))) = Some (Sequence x (also y ss))
in_sequence _ = None

abbrev pub updated : Bool → UpdateOperator → Shape → Shape
updated true = Prefix
updated false = Postfix

-- ---- an expression

-- of a node of this kind with these fields, of which those that are nodes have these shapes and those that are lists have these
unfoldable pub shape_from : Kind → Parts → (ℕ → Option Shape) → (ℕ → Option Shapes) → Option Shape
shape_from Identifier fields shape shapes = option_map One (unreserved (text_of fields))
shape_from Literal fields shape shapes = option_map One (literal_operand fields)
shape_from ThisExpression fields shape shapes = Some (One This)
shape_from ArrayExpression fields shape shapes = option_map Array (shapes 0)
-- an operator that stands before its expression
shape_from UnaryExpression fields shape shapes =
    if flag_of (part fields 1) then two Unary (slice_get unary_operators (word_of (part fields 0))) (shape 2) else None
shape_from UpdateExpression fields shape shapes =
    two (updated (flag_of (part fields 1))) (slice_get update_operators (word_of (part fields 0))) (target (shape 2))
shape_from BinaryExpression fields shape shapes =
    three (λ o x y. Infix (Binary o) x y) (slice_get binary_operators (word_of (part fields 1))) (shape 0) (shape 2)
shape_from LogicalExpression fields shape shapes =
    three (λ o x y. Infix (Logical o) x y) (slice_get logical_operators (word_of (part fields 1))) (shape 0) (shape 2)
shape_from AssignmentExpression fields shape shapes =
    three Assign (slice_get assignment_operators (word_of (part fields 0))) (target (shape 1)) (shape 2)
shape_from ConditionalExpression fields shape shapes = three Conditional (shape 0) (shape 1) (shape 2)
-- neither a call nor a member is one of an optional chain
shape_from CallExpression fields shape shapes = if flag_of (part fields 2) then None else two Call (shape 0) (shapes 1)
shape_from NewExpression fields shape shapes = two New (shape 0) (shapes 1)
shape_from MemberExpression fields shape shapes =
    if flag_of (part fields 3) then None else (if flag_of (part fields 2) then two Index (shape 0) (shape 1) else two Member (shape 0) (plain_name (part fields 1)))
shape_from SequenceExpression fields shape shapes = in_sequence (shapes 0)
shape_from _ fields shape shapes = None

unfoldable mutual
  -- of the i-th part of a run, where that is an expression that can be printed
  pub shape_at : Parts → ℕ → Option Shape
  shape_at done i = None
  shape_at (atom a rest) zero = None
  shape_at (atom a rest) (suc i) = shape_at rest i
  shape_at (child k s e fields rest) zero = shape_from k fields (λ j. shape_at fields j) (λ j. shapes_at fields j)
  shape_at (child k s e fields rest) (suc i) = shape_at rest i
  shape_at (many items rest) zero = None
  shape_at (many items rest) (suc i) = shape_at rest i

  -- of the i-th part, where that is a list of such expressions
  pub shapes_at : Parts → ℕ → Option Shapes
  shapes_at done i = None
  shapes_at (atom a rest) zero = None
  shapes_at (atom a rest) (suc i) = shapes_at rest i
  shapes_at (child k s e fields rest) zero = None
  shapes_at (child k s e fields rest) (suc i) = shapes_at rest i
  shapes_at (many items rest) zero = shapes_in items
  shapes_at (many items rest) (suc i) = shapes_at rest i

  -- of all parts of a run, where each is such an expression: no hole, and no spread
  pub shapes_in : Parts → Option Shapes
  shapes_in done = Some none
  shapes_in (atom a rest) = None
  shapes_in (child k s e fields rest) = two also (shape_from k fields (λ j. shape_at fields j) (λ j. shapes_at fields j)) (shapes_in rest)
  shapes_in (many items rest) = None

-- of a node
abbrev pub shape_of : Tree → Option Shape
shape_of t = shape_at (alone t) 0

-- an expression that can be printed: it and each expression in it has a shape
abbrev pub IsPrintable : Tree → Type 0
IsPrintable t = IsSome (shape_of t)
