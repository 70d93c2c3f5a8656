-- Operators of assignments (ECMA-262, 13.15).
use Rattle.std.specs.Prelude.{ℕ, Bool, true, false, Option, None, Some, List, codes}
use Rattle.syntax_lex.specs.declared.operator.assignment.AssignmentOperator.{AssignmentOperator}
use Rattle.syntax_lex.specs.declared.operator.assignment.AssignmentOperator.TheVariants.{Assign, Addition, Subtraction, Multiplication, Division, Remainder, Exponential, ShiftLeft, ShiftRight, ShiftRightZeroFill, BitwiseOR, BitwiseXOR, BitwiseAnd, LogicalOr, LogicalAnd, LogicalNullish}
use Rattle.syntax_lex.specs.declared.operator.binary.BinaryOperator.{BinaryOperator}
use Rattle.syntax_lex.specs.declared.operator.binary.BinaryOperator.TheVariants as binary
use Rattle.syntax_lex.specs.declared.operator.logical.LogicalOperator.{LogicalOperator}
use Rattle.syntax_lex.specs.declared.operator.logical.LogicalOperator.TheVariants as logical

-- how it is written
abbrev pub text_of : AssignmentOperator → List ℕ
text_of Assign = codes "="
text_of Addition = codes "+="
text_of Subtraction = codes "-="
text_of Multiplication = codes "*="
text_of Division = codes "/="
text_of Remainder = codes "%="
text_of Exponential = codes "**="
text_of ShiftLeft = codes "<<="
text_of ShiftRight = codes ">>="
text_of ShiftRightZeroFill = codes ">>>="
text_of BitwiseOR = codes "|="
text_of BitwiseXOR = codes "^="
text_of BitwiseAnd = codes "&="
text_of LogicalOr = codes "||="
text_of LogicalAnd = codes "&&="
text_of LogicalNullish = codes "??="

abbrev pub is_assign : AssignmentOperator → Bool
is_assign Assign = true
is_assign _ = false

abbrev pub is_logical : AssignmentOperator → Bool
is_logical LogicalOr = true
is_logical LogicalAnd = true
is_logical LogicalNullish = true
is_logical _ = false

abbrev pub is_arithmetic : AssignmentOperator → Bool
is_arithmetic Addition = true
is_arithmetic Subtraction = true
is_arithmetic Multiplication = true
is_arithmetic Division = true
is_arithmetic Remainder = true
is_arithmetic Exponential = true
is_arithmetic _ = false

abbrev pub is_bitwise : AssignmentOperator → Bool
is_bitwise ShiftLeft = true
is_bitwise ShiftRight = true
is_bitwise ShiftRightZeroFill = true
is_bitwise BitwiseOR = true
is_bitwise BitwiseXOR = true
is_bitwise BitwiseAnd = true
is_bitwise _ = false

-- the binary operator whose answer it assigns
abbrev pub to_binary_operator : AssignmentOperator → Option BinaryOperator
to_binary_operator Addition = Some binary.Addition
to_binary_operator Subtraction = Some binary.Subtraction
to_binary_operator Multiplication = Some binary.Multiplication
to_binary_operator Division = Some binary.Division
to_binary_operator Remainder = Some binary.Remainder
to_binary_operator Exponential = Some binary.Exponential
to_binary_operator ShiftLeft = Some binary.ShiftLeft
to_binary_operator ShiftRight = Some binary.ShiftRight
to_binary_operator ShiftRightZeroFill = Some binary.ShiftRightZeroFill
to_binary_operator BitwiseOR = Some binary.BitwiseOR
to_binary_operator BitwiseXOR = Some binary.BitwiseXOR
to_binary_operator BitwiseAnd = Some binary.BitwiseAnd
to_binary_operator _ = None

-- the logical operator whose answer it assigns
abbrev pub to_logical_operator : AssignmentOperator → Option LogicalOperator
to_logical_operator LogicalOr = Some logical.Or
to_logical_operator LogicalAnd = Some logical.And
to_logical_operator LogicalNullish = Some logical.Coalesce
to_logical_operator _ = None
