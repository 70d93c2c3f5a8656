-- The bases in which numbers are written (ECMA-262, 12.9.3).
use Rattle.std.specs.Prelude.{Bool, true, false}
use Rattle.syntax_lex.specs.declared.number.BigintBase.{BigintBase}
use Rattle.syntax_lex.specs.declared.number.BigintBase.TheVariants as bigint
use Rattle.syntax_lex.specs.declared.number.NumberBase.{NumberBase}
use Rattle.syntax_lex.specs.declared.number.NumberBase.TheVariants.{Float, Decimal}

abbrev pub is_number_base_10 : NumberBase → Bool
is_number_base_10 Float = true
is_number_base_10 Decimal = true
is_number_base_10 _ = false

abbrev pub is_bigint_base_10 : BigintBase → Bool
is_bigint_base_10 base = elim base [ bigint.Decimal ↦ true | _ ↦ false ]
