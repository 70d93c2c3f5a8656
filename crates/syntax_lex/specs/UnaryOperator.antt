-- Operators before their expression (ECMA-262, 13.5).
use Rattle.std.specs.Prelude.{ℕ, Bool, true, false, List, codes}
use Rattle.syntax_lex.specs.declared.operator.unary.UnaryOperator.{UnaryOperator}
use Rattle.syntax_lex.specs.declared.operator.unary.UnaryOperator.TheVariants.{UnaryPlus, UnaryNegation, LogicalNot, BitwiseNot, Typeof, Void, Delete}

-- how it is written
abbrev pub text_of : UnaryOperator → List ℕ
text_of UnaryPlus = codes "+"
text_of UnaryNegation = codes "-"
text_of LogicalNot = codes "!"
text_of BitwiseNot = codes "~"
text_of Typeof = codes "typeof"
text_of Void = codes "void"
text_of Delete = codes "delete"

abbrev pub is_arithmetic : UnaryOperator → Bool
is_arithmetic UnaryPlus = true
is_arithmetic UnaryNegation = true
is_arithmetic _ = false

abbrev pub is_not : UnaryOperator → Bool
is_not LogicalNot = true
is_not _ = false

abbrev pub is_bitwise : UnaryOperator → Bool
is_bitwise BitwiseNot = true
is_bitwise _ = false

abbrev pub is_typeof : UnaryOperator → Bool
is_typeof Typeof = true
is_typeof _ = false

abbrev pub is_void : UnaryOperator → Bool
is_void Void = true
is_void _ = false

abbrev pub is_delete : UnaryOperator → Bool
is_delete Delete = true
is_delete _ = false

abbrev pub is_keyword : UnaryOperator → Bool
is_keyword Typeof = true
is_keyword Void = true
is_keyword Delete = true
is_keyword _ = false
