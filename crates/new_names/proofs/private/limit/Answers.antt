use Rattle.std.specs.Prelude.{None}
use Rattle.new_names.proofs.NumbersFound.{limit_all, limit_more}
use Rattle.new_names.proofs.private.limit.Goals as goal

pub loop-number-preserved : goal.loop-number-preserved
loop-number-preserved c = record {
  below = limit_more c.args.numbers.now c.loop-number.number-index c.loop-number.limit c.limit_with-limit.result None c.loop-number-test.true c.loop-number.invariant.below c.limit_with-limit.ensures.limit;
  low = c.limit_with-limit.ensures.low;
}

pub returns-clause-below : goal.returns-clause-below
returns-clause-below c = limit_all c.args.numbers.now c.loop-number.number-index c.loop-number.limit c.loop-number-test.false c.loop-number.invariant.below
