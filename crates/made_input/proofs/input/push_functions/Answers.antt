use Rattle.made_input.proofs.FunctionsLeft.{one_written}
use Rattle.made_input.proofs.input.push_functions.Goals as goal

pub loop-k-preserved : goal.loop-k-preserved
loop-k-preserved c = one_written _ _ _ c.args.count c.loop-k.k c.loop-k-test.true c.loop-k.invariant c.in_ok-push_function.ensures
