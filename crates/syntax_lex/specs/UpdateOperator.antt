-- Operators that change their target (ECMA-262, 13.4).
use Rattle.std.specs.Prelude.{ℕ, List, codes}
use Rattle.syntax_lex.specs.declared.operator.update.UpdateOperator.{UpdateOperator}
use Rattle.syntax_lex.specs.declared.operator.update.UpdateOperator.TheVariants.{Increment, Decrement}

-- how it is written
abbrev pub text_of : UpdateOperator → List ℕ
text_of Increment = codes "++"
text_of Decrement = codes "--"
