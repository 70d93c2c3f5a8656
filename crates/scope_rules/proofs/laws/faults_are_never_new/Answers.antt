use Rattle.scope_rules.proofs.NoNewFaults as faultless
use Rattle.scope_rules.proofs.laws.faults_are_never_new.Goals as goal

pub returns : goal.returns
returns g c = λ same same' ps new tells tells' k homes e. faultless.faults_are_never_new same same' tells tells' ps new k homes e
