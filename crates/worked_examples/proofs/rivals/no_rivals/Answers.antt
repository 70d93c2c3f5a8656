use Rattle.std.proofs.Common.{refl}
use Rattle.std.proofs.lemmas.Bool.{true≢false}
use Rattle.worked_examples.proofs.Apart.{apart, same_options, untrue}
use Rattle.worked_examples.proofs.rivals.no_rivals.Goals as goal
use Rattle.worked_examples.specs.Open.{all_open}

pub returns-clause-captured : goal.returns-clause-captured
unfolding all_open
returns-clause-captured c w = apart same_options _ _ refl refl w.bound

pub returns-clause-faulty : goal.returns-clause-faulty
unfolding all_open
returns-clause-faulty c w = true≢false w.sound

pub returns-clause-shadowing : goal.returns-clause-shadowing
unfolding all_open
returns-clause-shadowing c w = untrue _ refl w.shadows
