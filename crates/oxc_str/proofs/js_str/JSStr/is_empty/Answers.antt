use Rattle.std.proofs.Common.{ap, length, sym, ◌∙◌}
use Rattle.std.proofs.lemmas.Bool.{eqb-true, eq-eqb}
use Rattle.oxc_str.proofs.Canonical.{units_of-nil, bytes-nil}
use Rattle.oxc_str.proofs.js_str.JSStr.is_empty.Goals as goal

pub returns : goal.returns
returns c = (
  λ t. units_of-nil _ (eqb-true _ _ (sym c.is_empty.ensures ∙ t)),
  λ e. c.is_empty.ensures ∙ eq-eqb _ _ (ap length (bytes-nil _ c.args.self.canonical e)),
)
