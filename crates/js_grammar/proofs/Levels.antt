-- The levels of operators, and of their parts.
use Rattle.std.proofs.Common.{◌≡◌, ℕ, suc, ◌≤◌, Bool, true, false, if◌then◌else◌, refl, sym, arith, true≢false}
use Rattle.syntax_lex.specs.declared.operator.binary.BinaryOperator.TheVariants.{Exponential}
use Rattle.syntax_lex.specs.declared.operator.logical.LogicalOperator.TheVariants.{Coalesce}
use Rattle.js_grammar.specs.Printed.{left_level, right_level}
use Rattle.js_grammar.specs.Shapes.{Binary, Logical, Operator, Shape, groups_left, infix_level}

-- of operators that group to the left by their levels
pub left_range : (o : Operator) → groups_left o ≡ true → (7 ≤ infix_level o) × (infix_level o ≤ 16)
left_range (Binary Exponential) h = absurd (true≢false (sym h))
left_range (Logical Coalesce) h = absurd (true≢false (sym h))
left_range _ h = (omega arith, omega arith)

pub any_range : (o : Operator) → (6 ≤ infix_level o) × (infix_level o ≤ 17)
any_range (Binary Exponential) = (omega arith, omega arith)
any_range (Logical Coalesce) = (omega arith, omega arith)
any_range _ = (omega arith, omega arith)

pub part_levels : (o : Operator) (x : Shape) → groups_left o ≡ true → (left_level o x ≡ infix_level o) × (right_level o ≡ suc (infix_level o))
part_levels (Binary Exponential) x h = absurd (true≢false (sym h))
part_levels (Logical Coalesce) x h = absurd (true≢false (sym h))
part_levels _ x h = (refl, refl)

-- the level of a member, by whether it is over a call
abbrev pub member_level : Bool → ℕ
member_level b = if b then 21 else 22

pub member_range : (b : Bool) → (21 ≤ member_level b) × (member_level b ≤ 22)
member_range true = (omega arith, omega arith)
member_range false = (omega arith, omega arith)
