-- Expressions as data: an expression's shape is what it is, but for where it stands and how its literals are written.
use Rattle.std.specs.Prelude.{ℕ, Bool, true, false, List}
use Rattle.syntax_lex.specs.BinaryOperator as binary
use Rattle.syntax_lex.specs.LogicalOperator as logical
use Rattle.syntax_lex.specs.Precedence.{level_of}
use Rattle.syntax_lex.specs.declared.operator.assignment.AssignmentOperator.{AssignmentOperator}
use Rattle.syntax_lex.specs.declared.operator.binary.BinaryOperator.{BinaryOperator}
use Rattle.syntax_lex.specs.declared.operator.binary.BinaryOperator.TheVariants.{Exponential}
use Rattle.syntax_lex.specs.declared.operator.logical.LogicalOperator.{LogicalOperator}
use Rattle.syntax_lex.specs.declared.operator.logical.LogicalOperator.TheVariants.{Coalesce}
use Rattle.syntax_lex.specs.declared.operator.unary.UnaryOperator.{UnaryOperator}
use Rattle.syntax_lex.specs.declared.operator.update.UpdateOperator.{UpdateOperator}
use Rattle.tree_nodes.specs.Tree.{Text}

-- an expression of one token: a name, `this`, `null`, a truth value, a whole number, a string of code units
pub data Operand : Type 0 where
  Name : Text → Operand
  This : Operand
  Null : Operand
  Boolean : Bool → Operand
  Whole : ℕ → Operand
  Units : List ℕ → Operand

-- an operator between two expressions
pub data Operator : Type 0 where
  Binary : BinaryOperator → Operator
  Logical : LogicalOperator → Operator

mutual
  pub data Shape : Type 0 where
    One : Operand → Shape
    Array : Shapes → Shape
    New : (callee : Shape) (arguments : Shapes) → Shape
    -- a member by its name, and one by an expression in brackets
    Member : (object : Shape) (name : Text) → Shape
    Index : (object property : Shape) → Shape
    Call : (callee : Shape) (arguments : Shapes) → Shape
    Postfix : UpdateOperator → Shape → Shape
    Prefix : UpdateOperator → Shape → Shape
    Unary : UnaryOperator → Shape → Shape
    Infix : Operator → (left right : Shape) → Shape
    Conditional : (test consequent alternate : Shape) → Shape
    Assign : AssignmentOperator → (target value : Shape) → Shape
    -- the first expression, and those after it
    Sequence : Shape → Shapes → Shape

  pub data Shapes : Type 0 where
    none : Shapes
    also : Shape → Shapes → Shapes

-- what may be assigned to
abbrev pub is_target : Shape → Bool
is_target (One (Name w)) = true
is_target (Member s w) = true
is_target (Index s x) = true
is_target _ = false

abbrev pub EXPONENTIAL : Operator
EXPONENTIAL = Binary Exponential

abbrev pub COALESCE : Operator
COALESCE = Logical Coalesce

-- how tightly an operator binds
abbrev pub infix_level : Operator → ℕ
infix_level (Binary o) = level_of (binary.precedence_of o)
infix_level (Logical o) = level_of (logical.precedence_of o)

-- an operator of which `a o b o c` is `(a o b) o c` by the levels alone: all but `**`, and `??`, which has a rule of its own
abbrev pub groups_left : Operator → Bool
groups_left (Binary Exponential) = false
groups_left (Logical Coalesce) = false
groups_left _ = true
