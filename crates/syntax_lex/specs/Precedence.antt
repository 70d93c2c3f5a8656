-- Levels of binding, from the loosest to the tightest.
use Rattle.std.specs.Prelude.{ℕ, Bool, true, false}
use Rattle.syntax_lex.specs.declared.precedence.Precedence.{Precedence}
use Rattle.syntax_lex.specs.declared.precedence.Precedence.TheVariants.{Lowest, Comma, Spread, Yield, Assign, Conditional, NullishCoalescing, LogicalOr, LogicalAnd, BitwiseOr, BitwiseXor, BitwiseAnd, Equals, Compare, Shift, Add, Multiply, Exponentiation, Prefix, Postfix, New, Call, Member}

-- its place among the levels
abbrev pub level_of : Precedence → ℕ
level_of Lowest = 0
level_of Comma = 1
level_of Spread = 2
level_of Yield = 3
level_of Assign = 4
level_of Conditional = 5
level_of NullishCoalescing = 6
level_of LogicalOr = 7
level_of LogicalAnd = 8
level_of BitwiseOr = 9
level_of BitwiseXor = 10
level_of BitwiseAnd = 11
level_of Equals = 12
level_of Compare = 13
level_of Shift = 14
level_of Add = 15
level_of Multiply = 16
level_of Exponentiation = 17
level_of Prefix = 18
level_of Postfix = 19
level_of New = 20
level_of Call = 21
level_of Member = 22

-- the level's operators group to the right; those of the others to the left
abbrev pub is_right_associative : Precedence → Bool
is_right_associative Exponentiation = true
is_right_associative Conditional = true
is_right_associative Assign = true
is_right_associative _ = false

abbrev pub is_bitwise : Precedence → Bool
is_bitwise BitwiseOr = true
is_bitwise BitwiseXor = true
is_bitwise BitwiseAnd = true
is_bitwise _ = false

abbrev pub is_shift : Precedence → Bool
is_shift Shift = true
is_shift _ = false

abbrev pub is_additive : Precedence → Bool
is_additive Add = true
is_additive _ = false
