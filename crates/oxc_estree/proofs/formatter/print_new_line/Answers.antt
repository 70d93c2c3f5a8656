use Rattle.std.proofs.Common.{◌∷◌, List, ℕ, ap, sym}
use Rattle.std.proofs.lemmas.Bool.{false≢true}
use Rattle.oxc_estree.proofs.Indents.{indent_more, later_levels_fit, next_level_fits}
use Rattle.oxc_estree.proofs.Refusals.{all_printed}
use Rattle.oxc_estree.proofs.formatter.print_new_line.Goals as goal

pub returns-in_err-print_str-clause-refused : goal.returns-in_err-print_str-clause-refused
returns-in_err-print_str-clause-refused c =
    absurd
    (false≢true
    (c.in_err-print_str.ensures.succeeds
    (next_level_fits c.loop-level.buffer c.loop-level._level c.args.levels c.loop-level-test.true c.loop-level.invariant.room)))

pub loop-level-preserved : goal.loop-level-preserved
loop-level-preserved c = record {
  printed = all_printed _ (ap (λ (t : List ℕ). 10 ∷ t) (sym (indent_more c.loop-level._level))) c.loop-level.invariant.printed c.in_ok-print_str.ensures.ok;
  room = later_levels_fit c.loop-level._level c.args.levels c.in_ok-print_str.ensures.ok c.loop-level.invariant.room;
}
