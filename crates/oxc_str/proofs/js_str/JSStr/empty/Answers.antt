use Rattle.std.proofs.Common.{ap, length}
use Rattle.oxc_str.proofs.Canonical.{units_of-nil}
use Rattle.oxc_str.proofs.js_str.JSStr.empty.Goals as goal

pub returns : goal.returns
returns c = units_of-nil _ (ap length c.from_str.ensures.bytes)
