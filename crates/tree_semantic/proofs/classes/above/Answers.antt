use Rattle.std.specs.Prelude.{◌<◌, ◌-◌, ◌≢◌, length}
use Rattle.std.proofs.Common.{◌∙◌, arith, sym}
use Rattle.std.proofs.lemmas.Bool.{eqb-false}
use Rattle.tree_symbols.proofs.Fitting.{rising_last}
use Rattle.tree_semantic.proofs.classes.above.Goals as goal

pub returns-else-is_empty : goal.returns-else-is_empty
returns-else-is_empty c =
    let some : 0 < length c.args.numbers.now = (let apart : length c.args.numbers.now ≢ 0 = eqb-false (length c.args.numbers.now) 0 (sym c.is_empty.ensures ∙ c.if-is_empty.false) in omega (arith, apart)) in
    rising_last 0 c.args.numbers.now (length c.args.numbers.now - 1) _ (omega (arith, some)) c.requires
