use Rattle.oxc_data_structures.proofs.stack.standard.Stack.try_collect.Goals as goal

pub returns : goal.returns
returns g c = let run = c.in_ok-collect.ensures.runs tt in (run.0, run.1, run.2, run.3.0)
