-- Operators between two expressions that are both evaluated.
use Rattle.std.specs.Prelude.{ℕ, Bool, true, false, ◌||◌, Option, None, Some, List, codes}
use Rattle.syntax_lex.specs.declared.operator.binary.BinaryOperator.{BinaryOperator}
use Rattle.syntax_lex.specs.declared.operator.binary.BinaryOperator.TheVariants.{Equality, Inequality, StrictEquality, StrictInequality, LessThan, LessEqualThan, GreaterThan, GreaterEqualThan, Addition, Subtraction, Multiplication, Division, Remainder, Exponential, ShiftLeft, ShiftRight, ShiftRightZeroFill, BitwiseOR, BitwiseXOR, BitwiseAnd, In, Instanceof}
use Rattle.syntax_lex.specs.declared.operator.assignment.AssignmentOperator.{AssignmentOperator}
use Rattle.syntax_lex.specs.declared.operator.assignment.AssignmentOperator.TheVariants as assignment
use Rattle.syntax_lex.specs.declared.precedence.Precedence.{Precedence}
use Rattle.syntax_lex.specs.declared.precedence.Precedence.TheVariants as level

-- how it is written
abbrev pub text_of : BinaryOperator → List ℕ
text_of Equality = codes "=="
text_of Inequality = codes "!="
text_of StrictEquality = codes "==="
text_of StrictInequality = codes "!=="
text_of LessThan = codes "<"
text_of LessEqualThan = codes "<="
text_of GreaterThan = codes ">"
text_of GreaterEqualThan = codes ">="
text_of Addition = codes "+"
text_of Subtraction = codes "-"
text_of Multiplication = codes "*"
text_of Division = codes "/"
text_of Remainder = codes "%"
text_of Exponential = codes "**"
text_of ShiftLeft = codes "<<"
text_of ShiftRight = codes ">>"
text_of ShiftRightZeroFill = codes ">>>"
text_of BitwiseOR = codes "|"
text_of BitwiseXOR = codes "^"
text_of BitwiseAnd = codes "&"
text_of In = codes "in"
text_of Instanceof = codes "instanceof"

abbrev pub is_equality : BinaryOperator → Bool
is_equality Equality = true
is_equality Inequality = true
is_equality StrictEquality = true
is_equality StrictInequality = true
is_equality _ = false

abbrev pub is_compare : BinaryOperator → Bool
is_compare LessThan = true
is_compare LessEqualThan = true
is_compare GreaterThan = true
is_compare GreaterEqualThan = true
is_compare _ = false

abbrev pub is_arithmetic : BinaryOperator → Bool
is_arithmetic Addition = true
is_arithmetic Subtraction = true
is_arithmetic Multiplication = true
is_arithmetic Division = true
is_arithmetic Remainder = true
is_arithmetic Exponential = true
is_arithmetic _ = false

abbrev pub is_multiplicative : BinaryOperator → Bool
is_multiplicative Multiplication = true
is_multiplicative Division = true
is_multiplicative Remainder = true
is_multiplicative _ = false

abbrev pub is_relational : BinaryOperator → Bool
is_relational In = true
is_relational Instanceof = true
is_relational _ = false

abbrev pub is_in : BinaryOperator → Bool
is_in In = true
is_in _ = false

abbrev pub is_instance_of : BinaryOperator → Bool
is_instance_of Instanceof = true
is_instance_of _ = false

abbrev pub is_bitwise : BinaryOperator → Bool
is_bitwise ShiftLeft = true
is_bitwise ShiftRight = true
is_bitwise ShiftRightZeroFill = true
is_bitwise BitwiseOR = true
is_bitwise BitwiseXOR = true
is_bitwise BitwiseAnd = true
is_bitwise _ = false

abbrev pub is_bitshift : BinaryOperator → Bool
is_bitshift ShiftLeft = true
is_bitshift ShiftRight = true
is_bitshift ShiftRightZeroFill = true
is_bitshift _ = false

-- on numbers or on strings alone
abbrev pub is_numeric_or_string_binary_operator : BinaryOperator → Bool
is_numeric_or_string_binary_operator operator = is_arithmetic operator || is_bitwise operator

-- written as a word
abbrev pub is_keyword : BinaryOperator → Bool
is_keyword operator = is_relational operator

-- a < b where b > a
abbrev pub compare_inverse_operator : BinaryOperator → Option BinaryOperator
compare_inverse_operator LessThan = Some GreaterThan
compare_inverse_operator LessEqualThan = Some GreaterEqualThan
compare_inverse_operator GreaterThan = Some LessThan
compare_inverse_operator GreaterEqualThan = Some LessEqualThan
compare_inverse_operator _ = None

-- a == b where not a != b
abbrev pub equality_inverse_operator : BinaryOperator → Option BinaryOperator
equality_inverse_operator Equality = Some Inequality
equality_inverse_operator Inequality = Some Equality
equality_inverse_operator StrictEquality = Some StrictInequality
equality_inverse_operator StrictInequality = Some StrictEquality
equality_inverse_operator _ = None

-- the operator that assigns its answer
abbrev pub to_assignment_operator : BinaryOperator → Option AssignmentOperator
to_assignment_operator Addition = Some assignment.Addition
to_assignment_operator Subtraction = Some assignment.Subtraction
to_assignment_operator Multiplication = Some assignment.Multiplication
to_assignment_operator Division = Some assignment.Division
to_assignment_operator Remainder = Some assignment.Remainder
to_assignment_operator Exponential = Some assignment.Exponential
to_assignment_operator ShiftLeft = Some assignment.ShiftLeft
to_assignment_operator ShiftRight = Some assignment.ShiftRight
to_assignment_operator ShiftRightZeroFill = Some assignment.ShiftRightZeroFill
to_assignment_operator BitwiseOR = Some assignment.BitwiseOR
to_assignment_operator BitwiseXOR = Some assignment.BitwiseXOR
to_assignment_operator BitwiseAnd = Some assignment.BitwiseAnd
to_assignment_operator _ = None

-- how tightly it binds
abbrev pub precedence_of : BinaryOperator → Precedence
precedence_of BitwiseOR = level.BitwiseOr
precedence_of BitwiseXOR = level.BitwiseXor
precedence_of BitwiseAnd = level.BitwiseAnd
precedence_of Equality = level.Equals
precedence_of Inequality = level.Equals
precedence_of StrictEquality = level.Equals
precedence_of StrictInequality = level.Equals
precedence_of LessThan = level.Compare
precedence_of LessEqualThan = level.Compare
precedence_of GreaterThan = level.Compare
precedence_of GreaterEqualThan = level.Compare
precedence_of In = level.Compare
precedence_of Instanceof = level.Compare
precedence_of ShiftLeft = level.Shift
precedence_of ShiftRight = level.Shift
precedence_of ShiftRightZeroFill = level.Shift
precedence_of Addition = level.Add
precedence_of Subtraction = level.Add
precedence_of Multiplication = level.Multiply
precedence_of Division = level.Multiply
precedence_of Remainder = level.Multiply
precedence_of Exponential = level.Exponentiation
