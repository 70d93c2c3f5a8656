use Rattle.std.proofs.Common.{sym, ◌∙◌, refl}
use Rattle.oxc_data_structures.proofs.stack.non_empty.NonEmptyStack.try_collect.Goals as goal

pub returns-in-Ok-try_from_vec-clause-items : goal.returns-in-Ok-try_from_vec-clause-items
returns-in-Ok-try_from_vec-clause-items g c =
    let run = c.in-Ok.ensures.runs tt in
    (run.0, run.1, run.2, c.in-Ok-try_from_vec.ensures.items ∙ run.3.0)

pub returns-in-Err-clause-empty : goal.returns-in-Err-clause-empty
returns-in-Err-clause-empty g c _ =
    let run = c.in-Ok.ensures.runs tt in
    (run.0, run.1, run.2, sym run.3.0 ∙ c.in-Err.ensures.err.0 refl)
