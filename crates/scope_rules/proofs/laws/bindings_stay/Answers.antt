use Rattle.scope_rules.proofs.BindingsStay as stay
use Rattle.scope_rules.proofs.laws.bindings_stay.Goals as goal

pub returns : goal.returns
returns g c = λ same same' ps new tells tells' k. stay.bindings_stay same same' tells tells' ps new k
