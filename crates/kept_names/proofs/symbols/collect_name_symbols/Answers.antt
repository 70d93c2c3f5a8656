use Rattle.std.proofs.Common.{◌∙◌}
use Rattle.std.proofs.lemmas.Result.{IfOk-weaker}
use Rattle.kept_names.proofs.symbols.collect_name_symbols.Goals as goal

pub returns : goal.returns
returns g c = IfOk-weaker c.set_of.result _ _ (λ bits h. h ∙ c.as_slice.ensures.value ∙ c.in_ok-kept.ensures) c.set_of.ensures
