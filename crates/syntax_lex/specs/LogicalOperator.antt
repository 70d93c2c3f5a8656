-- Operators that evaluate their right side where the left one asks for it (ECMA-262, 13.13).
use Rattle.std.specs.Prelude.{ℕ, Bool, true, false, List, codes}
use Rattle.syntax_lex.specs.declared.operator.logical.LogicalOperator.{LogicalOperator}
use Rattle.syntax_lex.specs.declared.operator.logical.LogicalOperator.TheVariants.{Or, And, Coalesce}
use Rattle.syntax_lex.specs.declared.operator.assignment.AssignmentOperator.{AssignmentOperator}
use Rattle.syntax_lex.specs.declared.operator.assignment.AssignmentOperator.TheVariants as assignment
use Rattle.syntax_lex.specs.declared.precedence.Precedence.{Precedence}
use Rattle.syntax_lex.specs.declared.precedence.Precedence.TheVariants as level

-- how it is written
abbrev pub text_of : LogicalOperator → List ℕ
text_of Or = codes "||"
text_of And = codes "&&"
text_of Coalesce = codes "??"

abbrev pub is_or : LogicalOperator → Bool
is_or Or = true
is_or _ = false

abbrev pub is_and : LogicalOperator → Bool
is_and And = true
is_and _ = false

abbrev pub is_coalesce : LogicalOperator → Bool
is_coalesce Coalesce = true
is_coalesce _ = false

-- the operator that assigns its answer
abbrev pub to_assignment_operator : LogicalOperator → AssignmentOperator
to_assignment_operator Or = assignment.LogicalOr
to_assignment_operator And = assignment.LogicalAnd
to_assignment_operator Coalesce = assignment.LogicalNullish

-- how tightly it binds
abbrev pub precedence_of : LogicalOperator → Precedence
precedence_of Or = level.LogicalOr
precedence_of And = level.LogicalAnd
precedence_of Coalesce = level.NullishCoalescing
